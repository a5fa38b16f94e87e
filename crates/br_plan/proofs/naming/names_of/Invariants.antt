use Rattle.std.proofs.Common.{◌≡◌, ◌++◌, List, ℕ, map}
use Rattle.std.specs.Borrow.{Bor}
use Rattle.std.specs.FinMap.{from_entries}
use Rattle.std.specs.Slice.Iter.{iter_rest}
use Rattle.br_view.specs.declared.entry.Entry.{Entry}
use Rattle.br_plan.specs.Selected.{named_pair}
use Rattle.br_plan.proofs.naming.names_of.Given as goal

-- the names of the entries after those that are left
abbrev pub invariant-loop-path : goal.invariant-loop-path
invariant-loop-path l = (done : List (Bor (List ℕ) × Entry)) × (l.names ≡ from_entries (map named_pair done)) × (iter_rest l.path-iterator.iter ++ done ≡ l.entries)
