-- The numbers of jobs as a set.
use Rattle.std.specs.Prelude.{◌≡◌, ℕ, ◌||◌, ◌==◌, List}
use Rattle.std.specs.Borrow.{Bor}
use Rattle.std.specs.List.{list_any}
use Rattle.std.specs.Ordering.{nat_cmp}
use Rattle.std.specs.BTreeSet.{BTreeSet, contains}
use Rattle.br_model.specs.Job.{JobRows}

-- the second set has one more number
abbrev pub AddsNumber : BTreeSet ℕ → ℕ → BTreeSet ℕ → Type 0
AddsNumber old number new = (q : ℕ) → contains nat_cmp new q ≡ (contains nat_cmp old q || number == q)

-- the set has the numbers of the jobs
abbrev pub AreNumbers : List (Bor JobRows) → BTreeSet ℕ → Type 0
AreNumbers jobs numbers = (q : ℕ) → contains nat_cmp numbers q ≡ list_any (λ (k : Bor JobRows). k.now.row.id == q) jobs
