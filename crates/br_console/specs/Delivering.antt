-- A run of the console as its contracts state it: over what reader, drives, writer and sink show
-- before and after the run.
use Rattle.std.specs.Prelude.{◌≡◌, ℕ, List, Option, Some, None, option_map, Result, Ok, Err, IfOk, ⊤}
use Rattle.br_model.specs.Restored.{Restored}
use Rattle.br_model.specs.Job.{JobRows}
use Rattle.br_model.specs.Choice.{Request, choose}
use Rattle.br_model.specs.View.{Entry}
use Rattle.br_model.specs.Plan.{Plan, plan_of}
use Rattle.br_plan.specs.Asked.{Asked}
use Rattle.br_plan.specs.Means.{IsViewOfChosen}
use Rattle.br_engine.specs.Restoring.{NoneStand, Told}
use Rattle.br_engine.specs.Outputs.{AllFail, InSink, StopsByFailure, StopsOnlyIf}
use Rattle.br_engine.specs.Restores.{Change}
use Rattle.br_engine.specs.declared.extracted.Extracted.{Extracted}
use Rattle.br_engine.specs.declared.restore.Restore.{Restore}
use Rattle.br_types.specs.declared.wanted.Wanted.{Wanted}
use Rattle.br_console.specs.ConsoleEnding.{LeavesSink, are_accepted}
use Rattle.br_console.specs.Running.{BeginsOver, MissingOver, NoneStandForPlan, RestoresOver, RestoresPlan, RunsOver, TellsOver}
use Rattle.br_console.specs.declared.ending.LineVerdict.{LineVerdict}
use Rattle.br_console.specs.declared.ending.End.{End}
use Rattle.br_console.specs.declared.ending.End.TheVariants.{Done, Quit}
use Rattle.br_console.specs.declared.ending.ConsoleRun.{ConsoleRun}
use Rattle.br_console.specs.declared.console_fault.ConsoleFault.{ConsoleFault}
use Rattle.br_console.specs.declared.console_fault.ConsoleFault.TheVariants.{Changed}

-- The run restored these files, or none if the dialogue did not end with `done`, and exactly what is
-- wanted of them was put. What is missing is told if that is wanted. If the run is refused, nothing
-- was put.
abbrev pub Delivers : Wanted → Option (List ℕ) → Told → Told → Option (List ℕ) → Option (List ℕ) → InSink → InSink → List JobRows → Request → Result ConsoleRun ConsoleFault → Type 0
Delivers wanted known earlier later before after had has history q (Ok run) =
    (files : Option (List Restored))
    × RestoresOver known earlier later before after history q (are_accepted run.lines) files
    × LeavesSink wanted had has run.end files
    × MissingOver known history q wanted run.end files
Delivers wanted known earlier later before after had has history q (Err why) = has ≡ had

-- ---- over what drives, writer and sink show before and after

abbrev pub Puts : Wanted → Option (List ℕ) → Change → Asked → Result ConsoleRun ConsoleFault → Type 0
Puts wanted known seen asked result =
    Delivers wanted known seen.old.told seen.new.told seen.old.written seen.new.written seen.old.has seen.new.has asked.history asked.request result

-- the run is that of the history, the request and the lines over all volumes that each of the drives may be taken to show
abbrev pub RunsInto : Option (List ℕ) → Change → Asked → Result ConsoleRun ConsoleFault → Type 0
RunsInto known seen asked result =
    RunsOver known seen.old.told seen.new.told seen.old.written seen.new.written asked.history asked.request result

-- what is written, whatever the drives do
abbrev pub TellsInto : Option (List ℕ) → Option (List ℕ) → Option (List ℕ) → Asked → Result ConsoleRun ConsoleFault → Type 0
TellsInto known before after asked result = TellsOver known before after asked.history asked.request result

-- all that comes before a drive is asked
abbrev pub BeginsInto : Option (List ℕ) → Option (List ℕ) → Option (List ℕ) → Asked → Result (LineVerdict × Option Plan) ConsoleFault → Type 0
BeginsInto known before after asked result = BeginsOver known before after asked.history asked.request result

-- the plan for some marked paths
abbrev pub plan_for : Asked → List (List ℕ) → Result Plan ℕ
plan_for asked marks = plan_of asked.history asked.request marks

-- if the jobs are chosen, these entries are their view
abbrev pub IsViewOfAsked : Asked → List Entry → Type 0
IsViewOfAsked asked view = IsViewOfChosen asked.history asked.request view

-- if the choice of jobs is refused, this holds
abbrev pub IfUnchosen : Asked → Type 0 → Type 0
IfUnchosen asked holds = (n : ℕ) → choose asked.history asked.request ≡ Err n → holds

-- ---- a sink that failed

-- if the delivery of a run stopped with 80, the sink has failed once more
abbrev pub EndsByFailure : Option ℕ → Option ℕ → End → Type 0
EndsByFailure earlier later (Done done) = StopsByFailure earlier later done.end
EndsByFailure earlier later Quit = ⊤

-- a stop with 80 was counted as a failure of the sink
abbrev pub RunStopIsCounted : {D S : Type 0} → (S → ℕ) → Restore D S → Restore D S → Result ConsoleRun ConsoleFault → Type 0
RunStopIsCounted failures before after result =
    IfOk result (λ run. EndsByFailure (option_map failures before.sink) (option_map failures after.sink) run.end)

-- ---- drives that failed, and volumes that were changed

-- the delivery of a run stopped by this number only if this holds
abbrev pub EndsOnlyIf : ℕ → Type 0 → End → Type 0
EndsOnlyIf number claim (Done done) = StopsOnlyIf number claim done.end
EndsOnlyIf number claim Quit = ⊤

-- a stop by 70 comes only if each drive failed
abbrev pub RunStopIsLost : {D S : Type 0} → (D → ℕ) → Restore D S → Restore D S → Result ConsoleRun ConsoleFault → Type 0
RunStopIsLost failures before after result =
    IfOk result (λ run. EndsOnlyIf 70 (AllFail failures before.drives.items after.drives.items) run.end)

-- a run is refused, or its delivery stops, by 72 only if this holds
abbrev pub RunOnlyIfChanged : Type 0 → Result ConsoleRun ConsoleFault → Type 0
RunOnlyIfChanged claim (Ok run) = EndsOnlyIf 72 claim run.end
RunOnlyIfChanged claim (Err why) = why ≡ Changed → claim

-- that happens only if there are no volumes that each of the drives may be taken to show
abbrev pub ChangesInto : Option (List ℕ) → Change → Asked → Result ConsoleRun ConsoleFault → Type 0
ChangesInto known seen asked result = RunOnlyIfChanged (NoneStandForPlan known seen.old.told seen.new.told asked.history asked.request) result

-- ---- the restore by a plan

-- the planned files were restored as wanted, or the restore is refused
abbrev pub RestoresInto : Wanted → Change → Plan → Result Extracted ConsoleFault → Type 0
RestoresInto wanted seen plan result =
    RestoresPlan wanted seen.old.told seen.new.told seen.old.written seen.new.written seen.old.has seen.new.has plan result

-- a stop with 80 was counted as a failure of the sink
abbrev pub PlanStopIsCounted : {D S : Type 0} → (S → ℕ) → Restore D S → Restore D S → Result Extracted ConsoleFault → Type 0
PlanStopIsCounted failures before after result =
    IfOk result (λ done. StopsByFailure (option_map failures before.sink) (option_map failures after.sink) done.end)

-- a stop by 70 comes only if each drive failed
abbrev pub PlanStopIsLost : {D S : Type 0} → (D → ℕ) → Restore D S → Restore D S → Result Extracted ConsoleFault → Type 0
PlanStopIsLost failures before after result = IfOk result (λ done. StopsOnlyIf 70 (AllFail failures before.drives.items after.drives.items) done.end)

-- a restore is refused, or its delivery stops, by 72 only if this holds
abbrev pub PlanOnlyIfChanged : Type 0 → Result Extracted ConsoleFault → Type 0
PlanOnlyIfChanged claim (Ok done) = StopsOnlyIf 72 claim done.end
PlanOnlyIfChanged claim (Err why) = why ≡ Changed → claim

-- that happens only if there are no volumes that each of the drives may be taken to show
abbrev pub ChangesPlan : Change → Plan → Result Extracted ConsoleFault → Type 0
ChangesPlan seen plan result = PlanOnlyIfChanged (NoneStand seen.old.told seen.new.told plan.groups) result

-- the restore of a plan is the end of a run with these lines
abbrev pub EndsPlan : LineVerdict → Wanted → Change → Plan → Result ConsoleRun ConsoleFault → Type 0
EndsPlan lines wanted seen plan (Ok run) =
    (done : Extracted) × (run ≡ record { lines = lines; end = Done done }) × RestoresInto wanted seen plan (Ok done)
EndsPlan lines wanted seen plan (Err why) = RestoresInto wanted seen plan (Err why)

-- What follows the part of a run before a drive is used: the restore of its plan, if there is one.
-- Otherwise nothing is used or written.
abbrev pub FinishesInto : Wanted → Change → Result (LineVerdict × Option Plan) ConsoleFault → Result ConsoleRun ConsoleFault → Type 0
FinishesInto wanted seen (Ok (lines, Some plan)) result = EndsPlan lines wanted seen plan result
FinishesInto wanted seen (Ok (lines, None)) result = (result ≡ Ok (record { lines = lines; end = Quit })) × (seen.new ≡ seen.old)
FinishesInto wanted seen (Err why) result = (result ≡ Err why) × (seen.new ≡ seen.old)
