-- Volumes in a folder, to which jobs are appended.
use Rattle.std.specs.Prelude.{◌≡◌, ℕ, List, Option, None}
use Rattle.br_fs.specs.Tree.{Tree}
use Rattle.br_volume.specs.Folder.{StoreInFolder}

-- the path of the folder in which restores read, and the store that jobs are appended to
pub record VolumesInFolder : Type 0 where
  pub path : List ℕ
  pub store : StoreInFolder

-- jobs are appended to the volumes in the folder with this path, and its drives read there
abbrev pub IsFolder : List ℕ → VolumesInFolder → Type 0
IsFolder path volumes = (volumes.path ≡ path) × (volumes.store.path ≡ path)

-- no disk of this kind tells what it has
abbrev pub NeverTells : {D : Type 0} → (D → Option Tree) → Type 0
NeverTells {D} told = (disk : D) → told disk ≡ None
