use Rattle.std.proofs.Common.{◌≡◌, ◌++◌, List, ℕ}
use Rattle.std.specs.Slice.Iter.{iter_rest}
use Rattle.br_session.specs.Spans.{AreLengths}
use Rattle.br_session.proofs.lengths.lengths_of.Given as goal

-- the lengths after those that are left
abbrev pub invariant-loop-vol : goal.invariant-loop-vol
invariant-loop-vol l = (done : List (List ℕ × ℕ)) × AreLengths l.lengths done × (iter_rest l.vol-iterator.iter ++ done ≡ l.starts)
