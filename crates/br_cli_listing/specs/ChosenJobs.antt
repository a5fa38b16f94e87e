-- What is said of the chosen jobs, and its exit status.
use Rattle.std.specs.Prelude.{ℕ, Bool, true, false, not, List, Result, Ok, Err}
use Rattle.br_model.specs.Text.{is_empty}
use Rattle.br_model.specs.Job.{JobRows}
use Rattle.br_jobs.specs.PurgedJobs.{warnings}

-- whether some of the chosen jobs is purged, so that there is a warning
abbrev pub has_warning : Result (List JobRows) ℕ → Bool
has_warning (Ok jobs) = not (is_empty (warnings jobs))
has_warning (Err number) = false

-- 1 after a warning, else 0
abbrev pub warned_status : Bool → ℕ
warned_status true = 1
warned_status false = 0

-- the exit status of a list of jobs: 1 if no job could be marked, or one of those marked is purged
abbrev pub list_status : Result (List JobRows) ℕ → ℕ
list_status (Ok jobs) = warned_status (has_warning (Ok jobs))
list_status (Err number) = 1
