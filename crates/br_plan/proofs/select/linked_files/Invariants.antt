use Rattle.std.proofs.Common.{◌≡◌, ◌||◌, drop}
use Rattle.br_plan.specs.Selected.{FileOf, has_file, is_linked_by}
use Rattle.br_plan.proofs.select.linked_files.Given as goal

-- the links so far and those of what is left
abbrev pub invariant-loop-place : goal.invariant-loop-place
invariant-loop-place l = (q : FileOf) → (has_file l.files q || is_linked_by (drop l.place l.entries) (drop l.place l.flags) q) ≡ is_linked_by l.entries l.flags q
