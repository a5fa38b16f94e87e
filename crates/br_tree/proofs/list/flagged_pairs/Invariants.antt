use Rattle.std.proofs.Common.{◌≡◌, ◌++◌, drop}
use Rattle.br_tree.specs.Lists.{kept}
use Rattle.br_tree.proofs.list.flagged_pairs.Given as goal

-- those so far, and those of what is left
abbrev pub invariant-loop-place : goal.invariant-loop-place
invariant-loop-place l = l.pairs.items ++ kept (drop l.place l.entries) (drop l.place l.flags) ≡ kept l.entries l.flags
