use Rattle.std.proofs.Common.{◌≡◌, ◌++◌, List, map}
use Rattle.std.specs.Slice.Iter.{iter_rest}
use Rattle.br_model.specs.Name.{FileKey}
use Rattle.br_join.specs.Outcome.{restored}
use Rattle.br_join.specs.declared.item.Outcome.{Outcome}
use Rattle.br_types.specs.Newest.{AreNoted, copies_of}
use Rattle.br_engine.proofs.newest_flags.noted.Given as goal

-- the copies of the outcomes after those that are left
abbrev pub invariant-loop-outcome : goal.invariant-loop-outcome
invariant-loop-outcome l =
    (done : List (FileKey × Outcome)) × AreNoted l.copies (copies_of (map restored done)) × (iter_rest l.outcome-iterator.iter ++ done ≡ l.outcomes)
