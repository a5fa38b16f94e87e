use Rattle.std.proofs.Common.{◌≡◌, length}
use Rattle.br_tree.specs.Lists.{last_part}
use Rattle.br_console.proofs.marked_paths.part_behind.Given as goal

-- what is left has the same last part
abbrev pub invariant-loop-place : goal.invariant-loop-place
invariant-loop-place l = last_part l.rest ≡ last_part l.text

abbrev pub decreases-loop-place : goal.decreases-loop-place
decreases-loop-place l = length l.rest
