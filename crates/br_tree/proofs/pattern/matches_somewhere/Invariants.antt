use Rattle.std.proofs.Common.{◌≡◌, length, ◌+◌}
use Rattle.std.specs.List.{list_any}
use Rattle.br_model.specs.Console as model
use Rattle.br_tree.proofs.pattern.matches_somewhere.Given as goal

-- what is left of them says the same
abbrev pub invariant-loop-rest : goal.invariant-loop-rest
invariant-loop-rest l = list_any (model.matches l.pattern) (model.tails l.name) ≡ list_any (model.matches l.left) (model.tails l.behind)

abbrev pub decreases-loop-rest : goal.decreases-loop-rest
decreases-loop-rest l = length l.left + length l.behind
