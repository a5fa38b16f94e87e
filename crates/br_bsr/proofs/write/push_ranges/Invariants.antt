use Rattle.std.proofs.Common.{◌≡◌, ◌++◌, take}
use Rattle.br_model.specs.Bootstrap.{range_lines}
use Rattle.br_bsr.proofs.write.push_ranges.Given as goal

abbrev pub invariant-loop-range : goal.invariant-loop-range
invariant-loop-range l = l.text.items ≡ l.initial.text.items ++ range_lines l.keyword (take l.range-index l.ranges)
