-- How callers see a publisher.
use Rattle.std.specs.Prelude.{List, [], ◌∷◌, ◌++◌}
use Rattle.logbook.specs.Pages.{Book}
use Rattle.br_model.specs.Job.{JobRows}

-- the list to which its jobs are added, the jobs before that list, the published beginning of the
-- list, and the whole list
pub record Publishing : Type 0 where
  pub book : Book
  pub opening : List JobRows
  pub published : List JobRows
  pub added : List JobRows

abbrev pub publishing : Book → List JobRows → List JobRows → List JobRows → Publishing
publishing book opening published added =
    record { book = book; opening = opening; published = published; added = added }

-- the publisher after a job was added
abbrev pub with_added : Publishing → JobRows → Publishing
with_added p rows = publishing p.book p.opening p.published (p.added ++ rows ∷ [])

-- the publisher after all added jobs were published
abbrev pub all_published : Publishing → Publishing
all_published p = publishing p.book p.opening p.added p.added
