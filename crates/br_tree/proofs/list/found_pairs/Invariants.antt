use Rattle.std.proofs.Common.{◌≡◌, ◌++◌, drop, map}
use Rattle.br_tree.specs.Seen.{seen_path}
use Rattle.br_tree.specs.Lists.{found_in}
use Rattle.br_tree.proofs.list.found_pairs.Given as goal

-- those so far, and those of what is left
abbrev pub invariant-loop-place : goal.invariant-loop-place
invariant-loop-place l = map seen_path l.found.items ++ found_in l.pattern (drop l.place l.entries) (drop l.place l.flags) ≡ found_in l.pattern l.entries l.flags
