use Rattle.std.proofs.Common.{◌≡◌}
use Rattle.br_sink.proofs.ApartLaws.{Walked}
use Rattle.br_sink.proofs.conflicts_apart.keep_apart.Given as goal

-- what was found of the outcomes so far
abbrev pub invariant-loop-outcome : goal.invariant-loop-outcome
invariant-loop-outcome l = record {
  place : l.place ≡ l.outcome-index;
  walked : Walked l.ways l.flags.items l.left.items l.wanted l.outcomes l.outcome-index;
}
