-- The volumes to which a session was written hold it.
use Rattle.std.specs.Prelude.{◌≡◌, ℕ, ◌^◌, ◌<◌, ◌≤◌, true, List, [], ◌++◌, length, map, filter, flat_map, bytes_eq, unwrap_or, None, Ok}
use Rattle.std.specs.List.{AllByRecursion}
use Rattle.br_model.specs.Number.{is_64_bits}
use Rattle.br_model.specs.Name.{is_path}
use Rattle.br_model.specs.Attribute.{stat_numbers}
use Rattle.br_model.specs.Volume.{Volume, volume_bytes, Extends, LaidBlock, AreLaid}
use Rattle.br_model.specs.Job.{JobRow}
use Rattle.br_model.specs.Stored.{Holds}
use Rattle.br_model.specs.Session.{checked_file, ToSave, checked_order, Place, length_of, Written, IsWritten, rows_of}

-- the bytes of a volume; none if it does not exist
abbrev pub bytes_of_volume : List Volume → List ℕ → List ℕ
bytes_of_volume volumes name = unwrap_or (volume_bytes volumes name) []

-- the blocks for a volume, joined
abbrev pub bytes_for : List (List ℕ × List ℕ) → List ℕ → List ℕ
bytes_for blocks name = flat_map (λ (b : List ℕ × List ℕ). b.1) (filter (λ (b : List ℕ × List ℕ). bytes_eq b.0 name) blocks)

-- the later volumes are the earlier ones with the blocks appended, each to its volume
abbrev pub AreAppended : List (List ℕ × List ℕ) → List Volume → List Volume → Type 0
AreAppended blocks earlier later = (name : List ℕ) → bytes_of_volume later name ≡ bytes_of_volume earlier name ++ bytes_for blocks name

-- the volume consists of whole blocks, and has the stated length
pub record IsReady (volumes : List Volume) (starts : List (List ℕ × ℕ)) (name : List ℕ) : Type 0 where
  pub blocks : List LaidBlock
  pub laid : AreLaid (bytes_of_volume volumes name) None (λ _. true) blocks
  pub length_is : length_of starts name ≡ length (bytes_of_volume volumes name)

-- a file with a path and numbers of 64 bits, that can be saved
pub record IsToSave (f : ToSave) : Type 0 where
  pub can_be : checked_file f.file ≡ Ok f.file
  pub path_is : is_path f.file.path ≡ true
  pub numbers : AllByRecursion (λ z. is_64_bits z ≡ true) (stat_numbers f.file.stat)

-- If the blocks of a session are appended to volumes that consist of whole blocks and have the
-- stated lengths, the volumes hold the job, and so do all that extend them. A session with files
-- has at least one place.
abbrev pub WrittenSessionsHold : Type 0
WrittenSessionsHold =
    (files : List ToSave) (row : JobRow) (limit : ℕ) (places : List Place) (starts : List (List ℕ × ℕ)) (written : Written) (deleted : List (List ℕ)) (earlier later after : List Volume)
    → AllByRecursion IsToSave files → checked_order files ≡ Ok files → (places ≡ [] → files ≡ [])
    → row.session.id < 2 ^ 32 → row.session.time < 2 ^ 32 → limit ≤ 64512
    → IsWritten files row.session limit places starts written
    → AllByRecursion (λ (p : Place). IsReady earlier starts p.volume) places
    → AreAppended written.blocks earlier later → Extends after later
    → Holds after (record { rows = rows_of row files deleted written.spans; saved = map (λ (f : ToSave). f.file) files })
