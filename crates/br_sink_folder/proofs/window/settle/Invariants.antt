use Rattle.std.specs.Prelude.{take}
use Rattle.br_sink_folder.specs.Held.{AreAnswered}
use Rattle.br_sink_folder.proofs.window.settle.Given as goal

-- those that were looked at have no fault
abbrev pub invariant-loop-one : goal.invariant-loop-one
invariant-loop-one g l =
    record {
      answered : AreAnswered (take l.one-index l.made);
    }
