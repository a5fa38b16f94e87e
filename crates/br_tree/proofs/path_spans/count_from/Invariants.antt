use Rattle.std.proofs.Common.{◌<◌, ◌-◌, length}
use Rattle.br_tree.proofs.path_spans.count_from.Given as goal

-- at least the path at the place is counted
abbrev pub invariant-loop-next : goal.invariant-loop-next
invariant-loop-next l = l.place < l.next

abbrev pub decreases-loop-next : goal.decreases-loop-next
decreases-loop-next l = length l.entries - l.next
