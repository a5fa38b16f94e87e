use Rattle.std.proofs.Common.{take}
use Rattle.br_plan.specs.Selected.{ArePaths}
use Rattle.br_plan.proofs.select.paths_of.Given as goal

-- the paths so far
abbrev pub invariant-loop-mark : goal.invariant-loop-mark
invariant-loop-mark l = ArePaths l.paths (take l.mark-index l.marks)
