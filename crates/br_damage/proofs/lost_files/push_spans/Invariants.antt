use Rattle.std.proofs.Common.{◌≡◌, ◌++◌, take, map}
use Rattle.br_damage.specs.LostFiles.{span_of}
use Rattle.br_damage.proofs.lost_files.push_spans.Given as goal

abbrev pub invariant-loop-range : goal.invariant-loop-range
invariant-loop-range l = l.spans.items ≡ l.initial.spans.items ++ map (span_of l.session) (take l.range-index l.ranges)
