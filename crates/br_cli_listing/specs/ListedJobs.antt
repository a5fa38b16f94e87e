-- The jobs that the command `jobs` lists, and its exit status.
use Rattle.std.specs.Prelude.{◌≡◌, ◌⊎◌, ℕ, List, Option, Some, None, Result, Ok}
use Rattle.std.specs.Borrow.{Bor}
use Rattle.br_model.specs.Answer.{◌>>=◌}
use Rattle.br_model.specs.Job.{JobRows}
use Rattle.br_model.specs.Moment.{read_moment}
use Rattle.br_cli_common.specs.declared.options.FileRows.{FileRows}
use Rattle.br_cli_common.specs.declared.options.JobsOptions.{JobsOptions}
use Rattle.br_jobs.specs.JobMarks.{marks}
use Rattle.br_jobs.specs.ListedFiles.{needed_by}
use Rattle.br_jobs.specs.declared.job_filter.Filter.{Filter}
use Rattle.br_cli_listing.specs.ChosenJobs.{list_status}
use Rattle.br_cli_listing.specs.LoadedJobs.{AreLoaded, rows_for}

-- the moment before which jobs are listed, if one is given, or why it is refused
abbrev pub before_asked : Option (Bor (List ℕ)) → Result (Option ℕ) ℕ
before_asked None = Ok None
before_asked (Some text) = read_moment text.now >>= (λ moment. Ok (Some moment))

-- the choice of jobs in the options, or why it is refused
unfoldable pub filter_asked : JobsOptions → Result Filter ℕ
filter_asked given =
    before_asked given.before >>= (λ before. Ok (record { client = given.client; fileset = given.fileset; before = before }))

-- the status of the list of these jobs of a catalogue, if it tells them
abbrev pub IsListed : Option (List JobRows) → FileRows → Filter → ℕ → Type 0
IsListed told rows f status =
    (history : List JobRows) × AreLoaded told (rows_for f rows) (needed_by f) history × (status ≡ list_status (marks history f))

-- the status is 1, or that of the list of the jobs that are asked for
abbrev pub EndsList : Option (List JobRows) → JobsOptions → ℕ → Type 0
EndsList told given status = (status ≡ 1) ⊎ ((f : Filter) × (filter_asked given ≡ Ok f) × IsListed told given.file_rows f status)
