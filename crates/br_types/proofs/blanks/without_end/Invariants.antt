use Rattle.std.proofs.Common.{◌≡◌, length}
use Rattle.br_types.specs.Trim.{trimmed_end}
use Rattle.br_types.proofs.blanks.without_end.Given as goal

abbrev pub invariant-loop-last : goal.invariant-loop-last
invariant-loop-last l = trimmed_end l.left ≡ trimmed_end l.text

abbrev pub decreases-loop-last : goal.decreases-loop-last
decreases-loop-last l = length l.left
