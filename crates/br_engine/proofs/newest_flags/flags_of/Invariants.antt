use Rattle.std.proofs.Common.{◌≡◌, map, take}
use Rattle.br_join.specs.Outcome.{restored}
use Rattle.br_types.specs.Newest.{is_newest}
use Rattle.br_engine.proofs.newest_flags.flags_of.Given as goal

-- the flags of the outcomes so far
abbrev pub invariant-loop-outcome : goal.invariant-loop-outcome
invariant-loop-outcome l = l.flags.items ≡ map (λ o. is_newest (map restored l.outcomes) (restored o)) (take l.outcome-index l.outcomes)
