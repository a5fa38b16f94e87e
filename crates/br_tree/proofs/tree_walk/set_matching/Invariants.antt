use Rattle.std.proofs.Common.{◌-◌, ◌≤◌}
use Rattle.br_tree.specs.Walk.{seen_paths, is_picked}
use Rattle.br_tree.proofs.StepLaws.{Stands}
use Rattle.br_tree.proofs.tree_walk.set_matching.Given as goal

-- the flags are set up to the place
abbrev pub invariant-loop-place : goal.invariant-loop-place
invariant-loop-place l = Stands (is_picked l.deep l.directory l.pattern) l.value (seen_paths l.entries) l.initial.flags l.place l.flags l.count l.found × (l.first ≤ l.place)

abbrev pub decreases-loop-place : goal.decreases-loop-place
decreases-loop-place l = l.last - l.place
