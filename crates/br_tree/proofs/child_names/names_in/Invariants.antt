use Rattle.std.proofs.Common.{◌≡◌, ◌≤◌, ◌-◌, ◌++◌, length, map, drop}
use Rattle.br_model.specs.Console as model
use Rattle.br_tree.specs.Seen.{flagged, seen_child, signed}
use Rattle.br_tree.specs.Walk.{seen_paths}
use Rattle.br_tree.proofs.child_names.names_in.Given as goal

-- the names so far, and those of what is left
abbrev pub invariant-loop-place : goal.invariant-loop-place
invariant-loop-place l =
    (map seen_child l.noted.items ++ map (signed (flagged (seen_paths l.entries) l.flags) l.directory) (model.children (drop l.place (seen_paths l.run)) l.directory)
    ≡ map (signed (flagged (seen_paths l.entries) l.flags) l.directory) (model.children (seen_paths l.run) l.directory)) × (l.place ≤ length l.run)

abbrev pub decreases-loop-place : goal.decreases-loop-place
decreases-loop-place l = length l.run - l.place
