use Rattle.std.proofs.Common.{◌≡◌, ◌-◌, ◌^◌, filter, length, map, min, not, take}
use Rattle.br_join.specs.Outcome.{restored}
use Rattle.br_types.specs.Newest.{is_newest}
use Rattle.br_engine.proofs.older_counts.count_older.Given as goal

-- the outcomes so far are counted
abbrev pub invariant-loop-outcome : goal.invariant-loop-outcome
invariant-loop-outcome l =
    l.count ≡ min (length (filter (λ r. not (is_newest (map restored l.outcomes) r)) (map restored (take l.outcome-index l.outcomes)))) (2 ^ 64 - 1)
