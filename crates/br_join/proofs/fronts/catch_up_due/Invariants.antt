use Rattle.br_model.specs.Meaning.{Hits}
use Rattle.br_join.specs.Front.{AreKnown}
use Rattle.br_join.proofs.fronts.catch_up_due.Given as goal

-- what is known fits the same sets
abbrev pub invariant-loop : goal.invariant-loop
invariant-loop l = (held : Hits) → AreKnown held l.initial.tree → AreKnown held l.tree
