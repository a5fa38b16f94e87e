-- The one list of added jobs, and how callers see a beginning of it.
use Rattle.std.specs.Prelude.{ℕ, ◌≡◌, ◌+◌, ◌==◌, ◌<◌, ◌≤◌, true, List, [], ◌∷◌, ◌++◌, length, MatchBool, Option, Some, None, ⊤}
use Rattle.logbook.specs.Pages.{Cell, cell, Step, View, Book, Named, may_make, may_write, nib}
use Rattle.logbook.specs.declared.tokens.Pen.{Pen}
use Rattle.br_model.specs.Job.{JobRows}

-- the list, and a beginning of it
pub record Beginning : Type 0 where
  pub book : Book
  pub log : List JobRows

-- the beginning of a list
abbrev pub beginning : Book → List JobRows → Beginning
beginning book log = record { book = book; log = log }

-- the number of the last job
abbrev pub last_id : List JobRows → Option ℕ
last_id [] = None
last_id (job ∷ []) = Some job.row.id
last_id (job ∷ other ∷ jobs) = last_id (other ∷ jobs)

-- The first word is the length of the list, and the second counts the cells after it. There is a cell
-- at home for each job. So a job is added by bringing the next cell home, and who has the pen of that
-- cell knows that nobody adds one.
pub record IsKept (cells : List Cell) (log : List JobRows) : Type 0 where
  pub tail : List Cell
  pub words : cells ≡ (length log, true) ∷ (length tail, true) ∷ tail
  pub home : (k : ℕ) → k < length log → (cell tail k).1 ≡ true

-- the first word of a list
abbrev pub head_of : Book → Named
head_of b = record { tracked = true; key = 0; book = b }

-- the second one
abbrev pub count_of : Book → Named
count_of b = record { tracked = true; key = 1; book = b }

-- the pen of the cell after those of the list's jobs
pub record IsNext (f : Beginning) (pen : Pen) : Type 0 where
  pub book_is : pen.book ≡ f.book
  pub right_is : pen.nib.right ≡ may_write
  pub key_is : pen.nib.key ≡ length f.log + 2

-- who has these words and this pen has the whole list
pub record IsOwned (f : Beginning) (words cells : Named) (pen : Pen) : Type 0 where
  pub words_are : words ≡ head_of f.book
  pub cells_are : cells ≡ count_of f.book
  pub pen_is : IsNext f pen

-- the rows of no job
abbrev pub no_rows : JobRows
no_rows = record {
  row = record { id = 0; kind = 0; level = 0; status = 0; start = 0; session = record { id = 0; time = 0 }; client = []; fileset = [] };
  files = [];
  spans = [];
}

-- there is one cell more, and a pen that may make its word; or there were not as many cells
abbrev pub AddsCell : Step JobRows → View JobRows ℕ → ℕ → View JobRows ℕ → Type 0
AddsCell s v found w = MatchBool (found == s.old) (w.1.0 ≡ nib may_make (s.old + 2) 0) ⊤

-- a job was added to all jobs seen so far
abbrev pub Adds : Step JobRows → View JobRows ℕ → ℕ → View JobRows ℕ → Type 0
Adds s v found w = w.0 ≡ v.0 ++ s.ask ∷ []

-- the list has no more jobs than this, and the pen stays
abbrev pub IsWhole : Step JobRows → View JobRows ℕ → ℕ → View JobRows ℕ → Type 0
IsWhole s v found w = (length w.0 ≤ s.old) × (w.1.0 ≡ v.1.0)
