-- Drives over a folder of the system.
use Rattle.std.specs.Prelude.{◌≡◌, ℕ, List, None}
use Rattle.std.specs.List.{AllByRecursion}
use Rattle.br_volume.specs.Folder.{InFolder}

-- each of the drives reads the volumes of this folder
abbrev pub AreOver : List ℕ → List InFolder → Type 0
AreOver folder drives = AllByRecursion (λ (drive : InFolder). drive.path ≡ folder) drives

-- none of the drives tells what its disk has
abbrev pub AreUntold : List InFolder → Type 0
AreUntold drives = AllByRecursion (λ (drive : InFolder). drive.told ≡ None) drives
