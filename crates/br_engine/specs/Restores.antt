-- A restore by an order: its manifest, the delivery of its files, and the report of what is
-- missing.
use Rattle.std.specs.Prelude.{◌≡◌, ℕ, List, [], ◌++◌, map, Option, option_map, None, Some, Result, Ok, Err, IfOk, IfSome, slice_get}
use Rattle.std.specs.List.{AllZip}
use Rattle.std.specs.declared.io.Write as write
use Rattle.br_model.specs.File.{Item}
use Rattle.br_model.specs.Name.{FileKey}
use Rattle.br_model.specs.Restored.{Restored, planned_in}
use Rattle.br_join.specs.Outcome.{restored}
use Rattle.br_join.specs.declared.item.Outcome.{Outcome}
use Rattle.br_volume.specs.declared.drive.Drive as drive
use Rattle.br_sink.specs.declared.sink.Sink as sink
use Rattle.br_sink.specs.Delivery.{items_in}
use Rattle.br_sink.specs.LeftOutLines.{left_lines}
use Rattle.br_engine.specs.DeliveredAgain.{IsFileLike}
use Rattle.br_engine.specs.Delivering.{IsPut, IsRefused, IsWritten}
use Rattle.br_engine.specs.Extracting.{NoneStandForText, OverText, OverVolumes, Said}
use Rattle.br_engine.specs.Outputs.{AllFail, EndTells, InSink, SinkCounts, StopsByFailure, StopsOnlyIf, end_text}
use Rattle.br_engine.specs.Restoring.{NoneStand, Told}
use Rattle.br_engine.specs.WantedOutcomes.{delivered, left_out, plain, reported_for}
use Rattle.br_engine.specs.declared.extracted.Extracted.{Extracted}
use Rattle.br_engine.specs.declared.restore_end.RestoreEnd.{RestoreEnd}
use Rattle.br_engine.specs.declared.restore_end.RestoreEnd.TheVariants.{AllFiles, SomeFaults, Stopped}
use Rattle.br_engine.specs.declared.fault.ExtractFault.{ExtractFault}
use Rattle.br_engine.specs.declared.fault.ExtractFault.TheVariants.{Changed}
use Rattle.br_engine.specs.declared.restore.Restore.{Restore}
use Rattle.br_engine.specs.declared.restore_order.RestoreOrder.{RestoreOrder}
use Rattle.br_types.specs.declared.wanted.Wanted.{Wanted}

-- ---- what a restore changes

-- the volumes that the drives report, the bytes that the writer holds, and the files that the sink
-- has
pub record Seen : Type 0 where
  pub told : Told
  pub written : Option (List ℕ)
  pub has : InSink

-- these before and after a run
pub record Change : Type 0 where
  pub old : Seen
  pub new : Seen

-- these of a restore and its writer
abbrev pub seen : {D W S : Type 0} → drive.Ghosts D → write.Ghosts W → sink.Ghosts S → Restore D S × W → Seen
seen drives writer sink at = record {
  told = map drives.shows at.0.drives.items;
  written = writer.contents at.1;
  has = option_map sink.has at.0.sink;
}

-- the change by a run
abbrev pub change : {D W S : Type 0} → drive.Ghosts D → write.Ghosts W → sink.Ghosts S → Restore D S × W → Restore D S × W → Change
change drives writer sink before after = record { old = seen drives writer sink before; new = seen drives writer sink after }

-- the failures of the sink were counted
abbrev pub CountsFailures : {D S : Type 0} → (S → ℕ) → Restore D S → Restore D S → Type 0
CountsFailures failures before after = SinkCounts (option_map failures before.sink) (option_map failures after.sink)

-- a stop by 80 was counted as a failure of the sink
abbrev pub StopIsCounted : {D S : Type 0} → (S → ℕ) → Restore D S → Restore D S → Result Extracted ExtractFault → Type 0
StopIsCounted failures before after result =
    IfOk result (λ done. StopsByFailure (option_map failures before.sink) (option_map failures after.sink) done.end)

-- a stop by 70 comes only if each drive failed
abbrev pub StopIsLost : {D S : Type 0} → (D → ℕ) → Restore D S → Restore D S → Result Extracted ExtractFault → Type 0
StopIsLost failures before after result =
    IfOk result (λ done. StopsOnlyIf 70 (AllFail failures before.drives.items after.drives.items) done.end)

-- ---- the result

-- the lines of what is missing, of the files that are left out (for their paths, or since the sink
-- failed), and of a delivery that stopped
-- a delivery that stopped
abbrev pub done_lines : Extracted → List (List ℕ) → List ℕ
done_lines done failed = done.missing.items ++ left_lines 81 done.left.items ++ left_lines 80 failed ++ end_text done.end

-- The manifest is that of all expected files, and the result tells whether each outcome is a file.
-- Of these files the sink has those that are to be delivered, or those before the stop. What is
-- missing is reported, and so are the files that are left out for a conflict. Or there is a
-- refusal, and nothing was put.
abbrev pub Extracts : Wanted → (Said → Type 0) → (List Restored → List ℕ → Type 0) → Option (List ℕ) → Option (List ℕ) → InSink → InSink
    → Result Extracted ExtractFault → Type 0
Extracts wanted over reports before after had has (Ok done) =
    (rs : List Restored) × IsWritten over before after rs × EndTells done.end rs × IsPut had has done.end (delivered wanted rs)
    × reports rs done.missing.items × (done.left.items ≡ left_out wanted rs)
Extracts wanted over reports before after had has (Err fault) = IsRefused over before after had has fault

-- a restore of what the bootstrap of the order gives (the planned files if it has names), with a
-- report of what is missing
abbrev pub Restores : RestoreOrder → Change → Result Extracted ExtractFault → Type 0
Restores order seen result =
    Extracts order.wanted (λ holds. OverVolumes seen.old.told seen.new.told order.asked.bootstrap.now (option_map planned_in order.names) holds)
    (λ rs lines. lines ≡ reported_for order.wanted.gaps order.asked rs) seen.old.written seen.new.written seen.old.has seen.new.has result

-- a plain restore of what the bootstrap in a text gives, if the text is known
abbrev pub RestoresText : Option (List ℕ) → Change → Result Extracted ExtractFault → Type 0
RestoresText known seen result =
    Extracts plain (λ holds. OverText known seen.old.told seen.new.told holds) (λ rs lines. lines ≡ []) seen.old.written seen.new.written
    seen.old.has seen.new.has result

-- the restore is refused, or its delivery stops, by 72 only if this holds
abbrev pub OnlyIfChanged : Type 0 → Result Extracted ExtractFault → Type 0
OnlyIfChanged claim (Ok done) = StopsOnlyIf 72 claim done.end
OnlyIfChanged claim (Err why) = why ≡ Changed → claim

-- that happens only if there are no volumes that each of the drives may be taken to show
abbrev pub ChangesOnly : RestoreOrder → Change → Result Extracted ExtractFault → Type 0
ChangesOnly order seen result = OnlyIfChanged (NoneStand seen.old.told seen.new.told order.asked.bootstrap.now) result

-- the same for the bootstrap in a text, if the text is known
abbrev pub ChangesOnlyText : Option (List ℕ) → Change → Result Extracted ExtractFault → Type 0
ChangesOnlyText known seen result = OnlyIfChanged (NoneStandForText known seen.old.told seen.new.told) result

-- ---- what the result says of the delivery

-- files like those among the outcomes were put into the sink: all, or those before a stop
abbrev pub IsPutOf : InSink → InSink → Extracted → Type 0
IsPutOf had has done = (rs : List Restored) × AllZip IsFileLike rs (map restored done.outcomes.items) × IsPut had has done.end rs

-- the outcomes of a result are what was delivered
abbrev pub TellsDelivered : Change → Result Extracted ExtractFault → Type 0
TellsDelivered seen result = IfOk result (IsPutOf seen.old.has seen.new.has)

-- the outcomes of a result are those of the expected files that are to be delivered
abbrev pub AreWanted : Wanted → (Said → Type 0) → Result Extracted ExtractFault → Type 0
AreWanted wanted over result =
    IfOk result (λ done. over (λ expected. IfOk expected (λ rs. map restored done.outcomes.items ≡ delivered wanted rs)))

-- of those that the bootstrap of the order gives (the planned files if it has names)
abbrev pub AreOrdered : RestoreOrder → Change → Result Extracted ExtractFault → Type 0
AreOrdered order seen result =
    AreWanted order.wanted (λ holds. OverVolumes seen.old.told seen.new.told order.asked.bootstrap.now (option_map planned_in order.names) holds) result

-- of those that the bootstrap in a text gives, if the text is known
abbrev pub AreOfText : Option (List ℕ) → Change → Result Extracted ExtractFault → Type 0
AreOfText known seen result = AreWanted plain (λ holds. OverText known seen.old.told seen.new.told holds) result

-- the path of the file at which a delivery stopped, if it is known; there is none if it did not stop
abbrev pub IsStopPath : List (FileKey × Outcome) → RestoreEnd → Option (List ℕ) → Type 0
IsStopPath outcomes AllFiles path = path ≡ None
IsStopPath outcomes SomeFaults path = path ≡ None
IsStopPath outcomes (Stopped stop) path =
    IfSome path (λ at_it. option_map (λ (i : Item). i.path) (slice_get (items_in outcomes) stop.done) ≡ Some at_it)

-- a result names the path at which its delivery stopped
abbrev pub TellsStop : Result Extracted ExtractFault → Type 0
TellsStop result = IfOk result (λ done. IsStopPath done.outcomes.items done.end done.stopped_at)
