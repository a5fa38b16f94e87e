use Rattle.std.proofs.Common.{◌≡◌, map, take}
use Rattle.br_join.specs.Outcome.{restored}
use Rattle.br_engine.proofs.chosen_outcomes.keys_of.Given as goal

-- the keys of the outcomes so far
abbrev pub invariant-loop-outcome : goal.invariant-loop-outcome
invariant-loop-outcome l = l.keys.items ≡ map (λ o. (restored o).key) (take l.outcome-index l.outcomes)
