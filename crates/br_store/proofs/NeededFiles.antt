-- The jobs are read, and then the files that they need.
use Rattle.std.proofs.Common.{◌≡◌, ℕ, List, Option, Some, None, Result, Ok, ap}
use Rattle.br_model.specs.Answer.{◌>>=◌, IsRefusal}
use Rattle.br_model.specs.Job.{JobRows}
use Rattle.br_catalog_rows.specs.Load.{read_history, read_needed, with_files_of, without_files}
use Rattle.br_catalog_rows.specs.Rows.{Rows}

module _ (needed : List JobRows → List ℕ) (rows : Rows) where
  abbrev then_files : Result (List JobRows) ℕ → Result (List JobRows) ℕ
  then_files r = r >>= λ jobs. read_history (with_files_of (needed jobs) rows)

  -- the history has the files that the jobs need
  pub files_after : (jobs : List JobRows) → read_history (without_files rows) ≡ Ok jobs → read_needed needed rows ≡ read_history (with_files_of (needed jobs) rows)
  unfolding read_needed
  files_after jobs e = ap then_files e

  -- what is refused of the jobs is refused
  pub jobs_refused : (why : Option ℕ) → IsRefusal why (read_history (without_files rows)) → IsRefusal why (read_needed needed rows)
  unfolding read_needed
  jobs_refused None is = tt
  jobs_refused (Some n) is = ap then_files is
