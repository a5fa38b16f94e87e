-- Files that are known by the number of their bytes and their digest.
use Rattle.std.specs.Prelude.{◌≡◌, ◌+◌, ℕ, List, length, take, Option, Some, None, Result, OnOk, ⊤}
use Rattle.md5.specs.Md5.{md5}
use Rattle.br_fs.specs.Tree.{Tree, file_bytes}
use Rattle.br_fs.specs.Calls.{HasFile}
use Rattle.br_fs.specs.Making.{Nodes, Bytes, node_at}

-- bytes of this number and digest
pub record IsAlike (count : ℕ) (digest bytes : List ℕ) : Type 0 where
  pub long : length bytes ≡ count
  pub same : md5 bytes ≡ digest

-- If the tree is told, a file of such bytes is at the path.
abbrev pub HasAlike : Option Tree → List ℕ → ℕ → List ℕ → Type 0
HasAlike told path count digest = HasFile told path (IsAlike count digest)

-- If the tree is told, no such file is at the path.
abbrev pub LacksAlike : Option Tree → List ℕ → ℕ → List ℕ → Type 0
LacksAlike None path count digest = ⊤
LacksAlike (Some tree) path count digest = (bytes : List ℕ) → file_bytes tree path ≡ Some bytes → IsAlike count digest bytes → ⊥

-- If the tree is told, a file is at the path, and its first bytes are such.
abbrev pub HasFront : Option Tree → List ℕ → ℕ → (List ℕ → Type 0) → Type 0
HasFront told path count P = HasFile told path (λ bytes. P (take count bytes))

-- If one front of the file is known before the call, the front with `wanted` bytes more is known
-- after it, if it did not fail.
abbrev pub ReadsOn : {A E : Type 0} → Result A E → Option Tree → Option Tree → List ℕ → ℕ → ℕ → (List ℕ → Type 0) → (List ℕ → Type 0) → Type 0
ReadsOn result before after path at wanted P Q = HasFront before path at P → OnOk result (HasFront after path (at + wanted) Q)

-- If the nodes are told, a file of such bytes is at the path.
abbrev pub IsAlikeAt : Option Nodes → List ℕ → ℕ → List ℕ → Type 0
IsAlikeAt None path count digest = ⊤
IsAlikeAt (Some nodes) path count digest = (bytes : List ℕ) × (node_at nodes path ≡ Some (Bytes bytes)) × IsAlike count digest bytes

-- If the nodes are told, no such file is at the path.
abbrev pub LacksAlikeAt : Option Nodes → List ℕ → ℕ → List ℕ → Type 0
LacksAlikeAt None path count digest = ⊤
LacksAlikeAt (Some nodes) path count digest = (bytes : List ℕ) → node_at nodes path ≡ Some (Bytes bytes) → IsAlike count digest bytes → ⊥
