-- Where the delivery of a restore stops. Data that are not in memory are read again meanwhile.
use Rattle.std.specs.Prelude.{◌≡◌, ◌⊎◌, ◌+◌, ◌<◌, ℕ, List, length, take}
use Rattle.br_model.specs.Delivery.{Stop}
use Rattle.br_model.specs.File.{Item}
use Rattle.br_data.specs.ManyDrives.{HaveFailed, RereadingMany}
use Rattle.br_data.specs.declared.reread_fault.AgainFault.{AgainFault}
use Rattle.br_data.specs.declared.reread_fault.AgainFault.TheVariants as again
use Rattle.br_sink.specs.Delivery.{AreApart}
use Rattle.br_sink.specs.Fault.{cause_number}
use Rattle.br_engine.specs.declared.restore_stop.RestoreCause.{RestoreCause}
use Rattle.br_engine.specs.declared.restore_stop.RestoreCause.TheVariants.{Sink, NoDriveLeft, Changed}

-- the number of the refusal
abbrev pub restore_number : RestoreCause → ℕ
restore_number (Sink cause) = cause_number cause
restore_number NoDriveLeft = 70
restore_number Changed = 72

-- the number if making a file once more failed
abbrev pub again_number : AgainFault → ℕ
again_number again.Memory = 1
again_number again.Failed = 70
again_number again.Changed = 72

-- A stop is at one of the files: memory ran out (1), the sink failed (80), the path conflicts (81), no
-- drive is left that reads its data again (70), or these are no longer those that were found (72). No
-- paths of the files before it conflict, and its own path conflicts with one of them only if the stop
-- is 81.
pub record IsRestoreStop (items : List Item) (stop : Stop) : Type 0 where
  pub number : (stop.number ≡ 1) ⊎ (stop.number ≡ 80) ⊎ (stop.number ≡ 81) ⊎ (stop.number ≡ 70) ⊎ (stop.number ≡ 72)
  pub within : stop.done < length items
  pub before : AreApart (take stop.done items)
  pub at_it : (stop.number ≡ 81 → ⊥) → AreApart (take (stop.done + 1) items)

-- a stop after fewer than this number of files: memory ran out (1), the sink failed (80), no drive is
-- left (70), or a volume was changed (72)
pub record IsStopAgain (count : ℕ) (stop : Stop) : Type 0 where
  pub number : (stop.number ≡ 1) ⊎ (stop.number ≡ 80) ⊎ (stop.number ≡ 70) ⊎ (stop.number ≡ 72)
  pub within : stop.done < count

-- the stop is 72 only if the files can't be given as they were found
abbrev pub IsChangedOnly : Type 0 → Stop → Type 0
IsChangedOnly given stop = stop.number ≡ 72 → given → ⊥

-- the stop is 70 only if each drive failed
abbrev pub IsLostOnly : RereadingMany → RereadingMany → Stop → Type 0
IsLostOnly before after stop = stop.number ≡ 70 → HaveFailed before after
