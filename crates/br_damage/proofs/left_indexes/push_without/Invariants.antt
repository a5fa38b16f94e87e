use Rattle.std.proofs.Common.{◌≡◌, ◌++◌, ◌≤◌, drop}
use Rattle.br_damage.specs.LeftIndexes.{indexes_without}
use Rattle.br_damage.proofs.left_indexes.push_without.Given as goal

-- the indexes so far, and those without the spans that are left
abbrev pub invariant-loop-span : goal.invariant-loop-span
invariant-loop-span l = record {
  left : l.left.items ++ indexes_without l.base l.next l.files.end (drop l.span-index l.lost) ≡ l.initial.left.items ++ indexes_without l.base l.files.low l.files.end l.lost;
  from : l.base ≤ l.next;
}
