-- The number of drives that a script uses.
use Rattle.std.specs.Prelude.{◌≡◌, ℕ, nat_le, ◌&&◌, if◌then◌else◌, List, Option, Some, None, option_and_then}
use Rattle.std.specs.List.{AllByRecursion}
use Rattle.br_model.specs.Volume.{Volume}
use Rattle.br_types.specs.DecimalField.{number_spelled}
use Rattle.br_cli_serve.specs.declared.fixed_drive.FixedDrive.{FixedDrive}

-- a number as a number of drives, if it is from 1 to 16
unfoldable pub drives_in_range : ℕ → Option ℕ
drives_in_range n = if nat_le 1 n && nat_le n 16 then Some n else None

-- the number of drives in a text in decimal, with any number of leading zeros
unfoldable pub drives_spelled : List ℕ → Option ℕ
drives_spelled text = option_and_then drives_in_range (number_spelled 16 text)

-- each of the drives is over these volumes
abbrev pub EachShows : List Volume → List FixedDrive → Type 0
EachShows volumes drives = AllByRecursion (λ (drive : FixedDrive). drive.inner ≡ volumes) drives
