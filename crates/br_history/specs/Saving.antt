-- Jobs that are to be committed.
use Rattle.std.specs.Prelude.{◌≡◌, ℕ, ◌≤◌, nat_lt, List, [], map, Result, Ok}
use Rattle.br_model.specs.Answer.{◌>>=◌, refuse_if}
use Rattle.br_model.specs.Job.{JobRow, JobRows, IsJob}
use Rattle.br_model.specs.Session.{ToSave, Place, checked_order}
use Rattle.br_block.specs.Building.{IsBlockLimit}
use Rattle.br_session.specs.Outcome.{ArePlaces}
use Rattle.br_history.specs.declared.fault.SavedJobFault.{SavedJobFault}
use Rattle.br_history.specs.declared.fault.SavedJobFault.TheVariants.{BadFileOrder, BadRow}

-- a job that is to be committed, with its files, the paths that it notes as deleted, the greatest
-- size of its blocks, and the places for them
pub record ToCommit : Type 0 where
  pub row : JobRow
  pub files : List ToSave
  pub deleted : List (List ℕ)
  pub limit : ℕ
  pub places : List Place

-- the job of this row, which saves these files and notes these deletions
abbrev pub of_parts : JobRow → List ToSave → List (List ℕ) → ℕ → List Place → ToCommit
of_parts row files deleted limit places =
    record { row = row; files = files; deleted = deleted; limit = limit; places = places }

-- the job; or 16 if its files are out of order, or else 42 if it begins after the year 9999
unfoldable pub checked_job : ToCommit → Result ToCommit ℕ
checked_job c = do
  _ ← checked_order c.files
  _ ← refuse_if (nat_lt 253402300799 c.row.start) 42
  Ok c

-- a job whose files are in order, which begins before the year 10000, and whose blocks have places
pub record IsToCommit (c : ToCommit) : Type 0 where
  pub bounds : IsBlockLimit c.limit
  pub places_are : ArePlaces c.places
  pub some_place : c.places ≡ [] → c.files ≡ []
  pub in_order : checked_order c.files ≡ Ok c.files
  pub early : c.row.start ≤ 253402300799

-- the number of the refusal of a job that is to be committed
abbrev pub saved_job_number : SavedJobFault → ℕ
saved_job_number BadFileOrder = 16
saved_job_number BadRow = 42

-- the rows are those of a job that saved these files
abbrev pub IsJobWith : List ToSave → JobRows → Type 0
IsJobWith files rows = IsJob (record { rows = rows; saved = map (λ (f : ToSave). f.file) files })
