use Rattle.std.proofs.Common.{◌≡◌, ◌++◌, List, map}
use Rattle.std.specs.Slice.Iter.{iter_rest}
use Rattle.br_model.specs.Name.{FileKey}
use Rattle.br_join.specs.Outcome.{restored}
use Rattle.br_join.specs.declared.item.Outcome.{Outcome}
use Rattle.br_types.specs.Newest.{copies_of, is_outdated}
use Rattle.br_engine.specs.OlderCounts.{IsCounted}
use Rattle.br_engine.proofs.older_counts.count_on_top.Given as goal

-- the outcomes after those that are left are counted
abbrev pub invariant-loop-outcome : goal.invariant-loop-outcome
invariant-loop-outcome l =
    (done : List (FileKey × Outcome))
    × IsCounted (is_outdated (copies_of (map restored l.outcomes))) l.last (copies_of (map restored done))
    × (iter_rest l.outcome-iterator.iter ++ done ≡ l.outcomes)
