use Rattle.std.proofs.Common.{length}
use Rattle.br_tree.specs.Fronts.{LeadsTo}
use Rattle.br_tree.proofs.pattern.match_front.Given as goal

-- pattern and name lead to what is left of them
abbrev pub invariant-loop-mark : goal.invariant-loop-mark
invariant-loop-mark l = LeadsTo l.pattern l.name l.left l.behind

abbrev pub decreases-loop-mark : goal.decreases-loop-mark
decreases-loop-mark l = length l.left
