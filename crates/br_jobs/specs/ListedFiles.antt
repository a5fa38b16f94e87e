-- The files that a list of jobs needs.
use Rattle.std.specs.Prelude.{◌≡◌, ℕ, List}
use Rattle.br_model.specs.Job.{JobRows}
use Rattle.br_history.specs.Needed.{numbers_in, with_needed}
use Rattle.br_jobs.specs.JobFilter.{jobs_listed}
use Rattle.br_jobs.specs.JobMarks.{marks}
use Rattle.br_jobs.specs.declared.job_filter.Filter.{Filter}

-- the numbers of the jobs whose files are needed: of those that are listed
abbrev pub needed_by : Filter → List JobRows → List ℕ
needed_by f jobs = numbers_in (jobs_listed f jobs)

-- A law about jobs of which those alone have files that are listed. The same jobs are listed, with
-- the same files, and the same are marked, or none is for the same reason.
abbrev pub ListsAlike : Type 0
ListsAlike =
    (f : Filter) (jobs : List JobRows)
    → (jobs_listed f (with_needed (needed_by f) jobs) ≡ jobs_listed f jobs) × (marks (with_needed (needed_by f) jobs) f ≡ marks jobs f)
