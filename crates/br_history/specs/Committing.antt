-- The result of writing a session: rows that fit together, and volumes of whole blocks.
use Rattle.std.specs.Prelude.{◌≡◌, ℕ, ◌^◌, ◌<◌, ◌≤◌, true, List, length, map, None, Ok}
use Rattle.std.specs.List.{AllByRecursion}
use Rattle.br_model.specs.Name.{SessionKey}
use Rattle.br_model.specs.Volume.{Volume, LaidBlock, AreLaid}
use Rattle.br_model.specs.Job.{JobRow, checked_rows}
use Rattle.br_model.specs.Session.{ToSave, Place, Written, IsWritten, checked_order, rows_of}
use Rattle.br_model.specs.SessionHolds.{IsToSave, IsReady, AreAppended, bytes_of_volume}

-- The rows of a job fit together once its session was written, if the job begins before the year
-- 10000.
abbrev pub WrittenRowsFit : Type 0
WrittenRowsFit =
    (row : JobRow) (files : List ToSave) (deleted : List (List ℕ)) (limit : ℕ) (places : List Place) (starts : List (List ℕ × ℕ))
    (written : Written) → AllByRecursion IsToSave files → checked_order files ≡ Ok files → row.start ≤ 253402300799
    → row.session.id < 2 ^ 32 → row.session.time < 2 ^ 32 → limit ≤ 64512
    → IsWritten files row.session limit places starts written
    → checked_rows (rows_of row files deleted written.spans) ≡ Ok (rows_of row files deleted written.spans)

-- each volume consists of whole blocks
abbrev pub AreWhole : List Volume → Type 0
AreWhole volumes = (name : List ℕ) → (blocks : List LaidBlock) × AreLaid (bytes_of_volume volumes name) None (λ _. true) blocks

-- If volumes consist of whole blocks, they still do after the blocks of a session are appended.
abbrev pub VolumesStayWhole : Type 0
VolumesStayWhole =
    (files : List ToSave) (key : SessionKey) (limit : ℕ) (places : List Place) (starts : List (List ℕ × ℕ)) (written : Written)
    (earlier later : List Volume) → key.id < 2 ^ 32 → key.time < 2 ^ 32 → limit ≤ 64512
    → IsWritten files key limit places starts written
    → AreWhole earlier → AreAppended written.blocks earlier later → AreWhole later

-- A volume of whole blocks is ready for a session that is given the lengths of all volumes.
abbrev pub WholeVolumesAreReady : Type 0
WholeVolumesAreReady =
    (volumes : List Volume) (name : List ℕ) → AreWhole volumes
    → IsReady volumes (map (λ (v : Volume). (v.name, length v.bytes)) volumes) name
