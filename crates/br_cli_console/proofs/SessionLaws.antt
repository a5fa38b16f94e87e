-- A session whose manifest goes to a file of its own.
use Rattle.std.proofs.Common.{◌≡◌, Option, Some, None, Result, Ok, Err, sym, ◌∙◌}
use Rattle.std.specs.Prelude.{OnOk}
use Rattle.br_model.specs.Plan.{Plan}
use Rattle.br_engine.specs.Restores.{Change}
use Rattle.br_types.specs.declared.wanted.Wanted.{Wanted}
use Rattle.br_console.specs.Delivering.{FinishesInto}
use Rattle.br_console.specs.declared.ending.LineVerdict.{LineVerdict}
use Rattle.br_console.specs.declared.ending.ConsoleRun.{ConsoleRun}
use Rattle.br_console.specs.declared.console_fault.ConsoleFault.{ConsoleFault}

-- what holds if all is written that comes before a drive is used holds at the end
pub stays_shown : (wanted : Wanted) (seen : Change) (prepared : Result (LineVerdict × Option Plan) ConsoleFault) (result : Result ConsoleRun ConsoleFault) (shown : Type 0)
    → FinishesInto wanted seen prepared result → OnOk prepared shown → OnOk result shown
stays_shown wanted seen (Ok (lines, plan)) (Ok run) shown ends is = is
stays_shown wanted seen prepared (Err why) shown ends is = tt
stays_shown wanted seen (Err why) (Ok run) shown ends is = absurd (clash ends.0)
  where
    clash : ◌≡◌ {A = Result ConsoleRun ConsoleFault} (Ok run) (Err why) → ⊥
    clash h = cc
