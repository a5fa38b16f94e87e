-- The result of writing a session.
use Rattle.std.specs.Prelude.{◌≡◌, ℕ, ◌≤◌, List, [], ◌∷◌, map, Result, Ok, Err, ⊤}
use Rattle.std.specs.List.{AllByRecursion}
use Rattle.br_model.specs.Name.{SessionKey}
use Rattle.br_model.specs.Volume.{Volume, Extends}
use Rattle.br_model.specs.Job.{JobRow}
use Rattle.br_model.specs.Stored.{Holds}
use Rattle.br_model.specs.Session.{ToSave, checked_order, session_records, ArePacked, Place, visits, checked_spans, Written, IsWritten, rows_of}
use Rattle.br_model.specs.SessionHolds.{AreAppended, IsReady}
use Rattle.br_session.specs.declared.fault.SessionFault.{SessionFault}
use Rattle.br_session.specs.declared.fault.SessionFault.TheVariants.{Memory, TooLarge, BadFileOrder, BadSavedFile, BadRow}

-- the records of the session are packed in some blocks whose spans are refused
pub record AreSpansRefused (files : List ToSave) (key : SessionKey) (limit : ℕ) (places : List Place) (starts : List (List ℕ × ℕ)) : Type 0 where
  pub blocks : List (List ℕ)
  pub packed : ArePacked limit key (session_records files) blocks
  pub refused : checked_spans starts (visits places blocks) ≡ Err 42

-- Files in order are written to places over volumes of given lengths, unless memory runs out or
-- their spans are refused. Else their order is refused.
abbrev pub IsOutcome : List ToSave → SessionKey → ℕ → List Place × List (List ℕ × ℕ) → Result Written SessionFault → Type 0
IsOutcome files key limit (places, starts) (Ok written) = (checked_order files ≡ Ok files) × IsWritten files key limit places starts written
IsOutcome files key limit (places, starts) (Err Memory) = checked_order files ≡ Ok files
IsOutcome files key limit (places, starts) (Err BadFileOrder) = checked_order files ≡ Err 16
IsOutcome files key limit (places, starts) (Err BadRow) = (checked_order files ≡ Ok files) × AreSpansRefused files key limit places starts
IsOutcome files key limit (places, starts) (Err TooLarge) = ⊥
IsOutcome files key limit (places, starts) (Err BadSavedFile) = ⊥

-- Append the blocks to volumes that consist of whole blocks and have the given lengths. Then they,
-- and all volumes that extend them, hold each job of the session with these files and any
-- deletions.
abbrev pub SessionHolds : List ToSave → SessionKey → List Place → List (List ℕ × ℕ) → Written → Type 0
SessionHolds files key places starts written =
    (row : JobRow) (deleted : List (List ℕ)) (earlier later after : List Volume) → row.session ≡ key
    → AllByRecursion (λ (p : Place). IsReady earlier starts p.volume) places
    → AreAppended written.blocks earlier later → Extends after later
    → Holds after (record { rows = rows_of row files deleted written.spans; saved = map (λ (f : ToSave). f.file) files })

-- each place but the last takes at least one block
abbrev pub ArePlaces : List Place → Type 0
ArePlaces [] = ⊤
ArePlaces (p ∷ []) = ⊤
ArePlaces (p ∷ q ∷ more) = (1 ≤ p.blocks) × ArePlaces (q ∷ more)
