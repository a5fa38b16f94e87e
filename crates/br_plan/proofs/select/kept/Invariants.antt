use Rattle.std.proofs.Common.{◌≡◌, ◌++◌, drop}
use Rattle.br_plan.specs.Selected.{has_file, kept_of}
use Rattle.br_plan.proofs.select.kept.Given as goal

-- what is kept so far, and of what is left
abbrev pub invariant-loop-place : goal.invariant-loop-place
invariant-loop-place l = l.kept.items ++ kept_of (has_file l.files) (drop l.place l.entries) (drop l.place l.flags) ≡ kept_of (has_file l.files) l.entries l.flags
