-- The effect of a call on a disk, as its tree shows it.
use Rattle.std.specs.Prelude.{◌≡◌, ℕ, ◌^◌, ◌<◌, ◌≤◌, List, length, take, drop, Option, Some, None, Result, Ok, Err, ⊤}
use Rattle.br_fs.specs.Tree.{Tree, file_bytes, other_at, IsLonger}
use Rattle.br_fs.specs.declared.kind.Kind.{Kind}
use Rattle.br_fs.specs.declared.kind.Kind.TheVariants.{File, Folder, Link, Other}
use Rattle.br_fs.specs.declared.fault.DiskFault.{DiskFault}
use Rattle.br_fs.specs.declared.fault.DiskFault.TheVariants.{NotFound, Exists, Interrupted, Memory, Failed}

-- If the tree is told, a file is at the path, and its bytes are such.
abbrev pub HasFile : Option Tree → List ℕ → (List ℕ → Type 0) → Type 0
HasFile None path P = ⊤
HasFile (Some tree) path P = (bytes : List ℕ) × (file_bytes tree path ≡ Some bytes) × P bytes

-- If the tree is told, a file is at the path.
abbrev pub IsFile : Option Tree → List ℕ → Type 0
IsFile told path = HasFile told path (λ bytes. ⊤)

-- If the tree is told, no file is at the path.
abbrev pub IsNoFile : Option Tree → List ℕ → Type 0
IsNoFile None path = ⊤
IsNoFile (Some tree) path = file_bytes tree path ≡ None

-- If the tree is told, nothing is at the path.
abbrev pub IsNothing : Option Tree → List ℕ → Type 0
IsNothing None path = ⊤
IsNothing (Some tree) path = (file_bytes tree path ≡ None) × (other_at tree path ≡ None)

-- If the tree is told, no folder and no pipe or device is at the path. A link may be there.
abbrev pub IsAbsent : Option Tree → List ℕ → Type 0
IsAbsent None path = ⊤
IsAbsent (Some tree) path = (other_at tree path ≡ Some Folder → ⊥) × (other_at tree path ≡ Some Other → ⊥)

-- If the tree is told, something is at the path.
abbrev pub IsTaken : Option Tree → List ℕ → Type 0
IsTaken None path = ⊤
IsTaken (Some tree) path = IsNothing (Some tree) path → ⊥

-- A disk tells its tree always or never. If it tells it, all that is not a file is unchanged.
abbrev pub KeepsFolders : Option Tree → Option Tree → Type 0
KeepsFolders None None = ⊤
KeepsFolders (Some earlier) (Some later) = later.others ≡ earlier.others
KeepsFolders None (Some later) = ⊥
KeepsFolders (Some earlier) None = ⊥

-- something other than a file is at the path
abbrev pub IsOther : Tree → List ℕ → Kind → Type 0
IsOther tree path kind = (file_bytes tree path ≡ None) × (other_at tree path ≡ Some kind)

-- what is at the path: a file of this length, or something else
abbrev pub IsAt : Tree → List ℕ → Kind → ℕ → Type 0
IsAt tree path File n = (bytes : List ℕ) × (file_bytes tree path ≡ Some bytes) × (n ≡ length bytes)
IsAt tree path Folder n = IsOther tree path Folder
IsAt tree path Link n = IsOther tree path Link
IsAt tree path Other n = IsOther tree path Other

-- If the tree is told, this is what is at the path.
abbrev pub IsFound : Option Tree → List ℕ → Kind → ℕ → Type 0
IsFound None path kind n = ⊤
IsFound (Some tree) path kind n = IsAt tree path kind n

-- The first n bytes of the buffer are the text's from an address on. n is at least 1, unless the
-- text ends there or the buffer has no room. No file has 2^63 bytes.
pub record IsPartAt (bytes : List ℕ) (at : ℕ) (buffer : List ℕ) (n : ℕ) : Type 0 where
  pub same : take n buffer ≡ take n (drop at bytes)
  pub some : n ≡ 0 → 0 < length buffer → length bytes ≤ at
  pub below : length bytes < 2 ^ 63

-- If the tree is told, this is a possible result of a read of the file at the path.
abbrev pub IsReadAt : Option Tree → List ℕ → ℕ → List ℕ → ℕ → Type 0
IsReadAt told path at buffer n = HasFile told path (λ bytes. IsPartAt bytes at buffer n)

-- A disk tells its tree always or never. If it tells it, the bytes are appended to the file.
abbrev pub Appends : List ℕ → List ℕ → Option Tree → Option Tree → Type 0
Appends path bytes None None = ⊤
Appends path bytes (Some earlier) (Some later) = IsLonger path bytes earlier later
Appends path bytes None (Some later) = ⊥
Appends path bytes (Some earlier) None = ⊥

-- If a disk does not fail by itself, it does not fail here, and it is interrupted at most this
-- number of times.
abbrev pub IsSteady : {A : Type 0} → Option ℕ → Option ℕ → Result A DiskFault → Type 0
IsSteady None later result = ⊤
IsSteady (Some n) None result = ⊥
IsSteady (Some n) (Some m) (Ok x) = m ≤ n
IsSteady (Some n) (Some m) (Err Interrupted) = m < n
IsSteady (Some n) (Some m) (Err NotFound) = m ≤ n
IsSteady (Some n) (Some m) (Err Exists) = m ≤ n
IsSteady (Some n) (Some m) (Err Memory) = m ≤ n
IsSteady (Some n) (Some m) (Err Failed) = ⊥

-- a disk that does not fail by itself stays such, and no more interrupts come
abbrev pub StaysSteady : Option ℕ → Option ℕ → Type 0
StaysSteady None later = ⊤
StaysSteady (Some n) None = ⊥
StaysSteady (Some n) (Some m) = m ≤ n
