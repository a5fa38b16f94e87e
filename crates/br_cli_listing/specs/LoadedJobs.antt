-- The jobs of a catalogue, with the files that a command needs.
use Rattle.std.specs.Prelude.{◌≡◌, ℕ, ◌&&◌, not, Bool, if◌then◌else◌, List, Option, is_some, IfSome}
use Rattle.br_model.specs.Job.{JobRows}
use Rattle.br_history.specs.Needed.{with_needed}
use Rattle.br_cli_common.specs.declared.options.FileRows.{FileRows}
use Rattle.br_cli_common.specs.declared.options.FileRows.TheVariants.{All, Needed}
use Rattle.br_jobs.specs.declared.job_filter.Filter.{Filter}

-- the jobs with all files, or with those of the jobs alone whose files are needed
abbrev pub loaded : FileRows → (List JobRows → List ℕ) → List JobRows → List JobRows
loaded Needed needed jobs = with_needed needed jobs
loaded All needed jobs = jobs

-- these are the jobs of a catalogue, if it tells them, with the files that are looked at
abbrev pub AreLoaded : Option (List JobRows) → FileRows → (List JobRows → List ℕ) → List JobRows → Type 0
AreLoaded told rows needed history = IfSome told (λ jobs. history ≡ loaded rows needed jobs)

-- whether a filter lists all jobs
abbrev pub lists_all : Filter → Bool
lists_all f = not (is_some f.client) && not (is_some f.fileset) && not (is_some f.before)

-- the rows of files that a list of jobs looks at: all if it lists all jobs
abbrev pub rows_for : Filter → FileRows → FileRows
rows_for f rows = if lists_all f then All else rows
