use Rattle.std.proofs.Common.{◌≡◌, ◌+◌, length, take}
use Rattle.br_sink.specs.Delivery.{items_in}
use Rattle.br_sink.proofs.left_out.file_at.Given as goal

-- the files of the outcomes so far come before the one that is sought
abbrev pub invariant-loop-outcome : goal.invariant-loop-outcome
invariant-loop-outcome l = record {
  place : l.place ≡ l.outcome-index;
  left : l.left + length (items_in (take l.outcome-index l.outcomes)) ≡ l.count;
}
