-- What is durable of files, or of volumes, and what a crash may leave of them.
use Rattle.std.specs.Prelude.{◌≡◌, ℕ, ◌==◌, false, List, ◌∷◌, ◌++◌, Option, Some, None, ⊤}
use Rattle.std.specs.List.{list_any}
use Rattle.br_model.specs.Volume.{Volume, volume_bytes, Extends}
use Rattle.br_fs.specs.Tree.{Tree}

-- A crash leaves each file that is durable, with at least the bytes of it that are durable. It
-- leaves no other bytes of a file than the first of those that were written. A file that is not
-- durable may be missing.
pub record MayBeLeft (files durable left : List Volume) : Type 0 where
  pub kept : Extends left durable
  pub fronts : Extends files left

-- a crash may leave all files, or nothing but what is durable
abbrev pub CrashesLeaveFronts : Type 0
CrashesLeaveFronts =
    (files durable : List Volume) → Extends files durable → MayBeLeft files durable files × MayBeLeft files durable durable

-- What is durable is told always or never. If it is told, it stays durable.
abbrev pub Lasts : Option (List Volume) → Option (List Volume) → Type 0
Lasts None None = ⊤
Lasts (Some earlier) (Some later) = Extends later earlier
Lasts None (Some later) = ⊥
Lasts (Some earlier) None = ⊥

-- a crash leaves a file of this name
abbrev pub IsNamed : List Volume → List ℕ → Type 0
IsNamed durable name = (front : List ℕ) × (volume_bytes durable name ≡ Some front)

-- all bytes of the file are durable, if there is such a file
abbrev pub IsDurable : List Volume → List Volume → List ℕ → Type 0
IsDurable files durable name =
    (bytes : List ℕ) → volume_bytes files name ≡ Some bytes → (more : List ℕ) × (volume_bytes durable name ≡ Some (bytes ++ more))

-- the files of the folder itself have names, if they are there; `name` has no slash
abbrev pub AreNamed : List ℕ → List Volume → List Volume → Type 0
AreNamed folder files durable =
    (name bytes : List ℕ) → list_any (λ b. b == 47) name ≡ false → volume_bytes files (folder ++ 47 ∷ name) ≡ Some bytes
    → IsNamed durable (folder ++ 47 ∷ name)

-- If the disk tells its tree and what is durable, a crash leaves a file for each of the folder.
abbrev pub NamesFiles : List ℕ → Option Tree → Option (List Volume) → Type 0
NamesFiles folder None durable = ⊤
NamesFiles folder (Some tree) None = ⊤
NamesFiles folder (Some tree) (Some durable) = AreNamed folder tree.files durable

-- If the disk tells its tree and what is durable, all bytes of the file are durable from now on. It
-- has a name that a crash leaves.
abbrev pub SyncsFile : List ℕ → Option Tree → Option (List Volume) → Option (List Volume) → Type 0
SyncsFile path None before after = ⊤
SyncsFile path (Some tree) None after = ⊤
SyncsFile path (Some tree) (Some before) None = ⊥
SyncsFile path (Some tree) (Some before) (Some after) = IsNamed before path → IsDurable tree.files after path
