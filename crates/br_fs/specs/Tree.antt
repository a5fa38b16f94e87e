-- What a disk has: files with their bytes, and other things, each under its whole path.
use Rattle.std.specs.Prelude.{◌≡◌, ℕ, if◌then◌else◌, List, ◌++◌, bytes_eq, Option, Some, option_map, find}
use Rattle.br_model.specs.Volume.{Volume, volume_bytes}
use Rattle.br_model.specs.SessionHolds.{bytes_of_volume}
use Rattle.br_fs.specs.declared.kind.Kind.{Kind}

-- the files, whose names are whole paths, and the paths at which something else is
pub record Tree : Type 0 where
  pub files : List Volume
  pub others : List (List ℕ × Kind)

-- the bytes of the file at a path, if there is one
abbrev pub file_bytes : Tree → List ℕ → Option (List ℕ)
file_bytes tree path = volume_bytes tree.files path

-- what is at a path other than a file, if there is something
abbrev pub other_at : Tree → List ℕ → Option Kind
other_at tree path = option_map (λ (e : List ℕ × Kind). e.1) (find (λ (e : List ℕ × Kind). bytes_eq e.0 path) tree.others)

-- what is at the path `other` after bytes are appended to the file at `path`, which is made if it
-- does not exist
abbrev pub bytes_after : List Volume → List ℕ → List ℕ → List ℕ → Option (List ℕ)
bytes_after earlier path bytes other =
    if bytes_eq other path then Some (bytes_of_volume earlier path ++ bytes) else volume_bytes earlier other

-- the later files are the earlier ones with bytes appended to one of them
abbrev pub AreLonger : List ℕ → List ℕ → List Volume → List Volume → Type 0
AreLonger path bytes earlier later = (other : List ℕ) → volume_bytes later other ≡ bytes_after earlier path bytes other

-- The later tree is the earlier one with bytes appended to one file.
pub record IsLonger (path bytes : List ℕ) (earlier later : Tree) : Type 0 where
  pub files : AreLonger path bytes earlier.files later.files
  pub others : later.others ≡ earlier.others
