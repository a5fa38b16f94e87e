-- The rule for what is published.
use Rattle.std.specs.Prelude.{ℕ, ◌≡◌, true, false, List, [], ◌++◌}
use mathlib.Core.Option.{some}
use lib.ListN.{get_elem?}
use Rattle.logbook.specs.Pages.{Book}
use Rattle.br_model.specs.Job.{JobRows}
use Rattle.br_keeper.specs.declared.published.PublishedView.{PublishedView}
use Rattle.br_keeper.specs.Beginnings.{Beginning}

abbrev pub knowing : Book → List JobRows → PublishedView
knowing book opening = record { knows = true; number = book.number; log_name = book.log_name; cells_name = book.cells_name; opening = opening }

abbrev pub stranger : PublishedView
stranger = record { knows = false; number = 0; log_name = 0; cells_name = 0; opening = [] }

abbrev pub book_in : PublishedView → Book
book_in v = record { number = v.number; log_name = v.log_name; cells_name = v.cells_name }

-- the jobs are the opening ones and then the list's; a reader who knows those knows these
pub record Keeps (jobs : List JobRows) (front : Beginning) (views : List PublishedView) : Type 0 where
  pub opening : List JobRows
  pub jobs_are : jobs ≡ opening ++ front.log
  pub fits : (j : ℕ) (v : PublishedView) → get_elem? views j ≡ some v → v.knows ≡ true → (book_in v ≡ front.book) × (v.opening ≡ opening)

-- what a reader learns
abbrev pub Saw : PublishedView → List JobRows → Beginning → PublishedView → Type 0
Saw v jobs front w = (w ≡ v) × (v.knows ≡ true → (front.book ≡ book_in v) × (jobs ≡ v.opening ++ front.log))
