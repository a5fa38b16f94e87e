use Rattle.std.proofs.Common.{◌≡◌, true, take}
use Rattle.br_damage.specs.LeftIndexes.{AreLeft, are_valid}
use Rattle.br_damage.proofs.left_indexes.left_of.Given as goal

-- what is left of the ranges so far
abbrev pub invariant-loop-range : goal.invariant-loop-range
invariant-loop-range l = record {
  left : AreLeft l.lost.spans.items l.session (take l.range-index l.ranges) l.left.items;
  valid : are_valid (take l.range-index l.ranges) ≡ true → are_valid l.left.items ≡ true;
}
