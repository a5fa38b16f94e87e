-- The choice of the jobs that are listed.
use Rattle.std.specs.Prelude.{Bool, true, ◌&&◌, nat_lt, List, filter}
use Rattle.std.specs.Option.{option_map_or}
use Rattle.br_model.specs.Job.{JobRows}
use Rattle.br_model.specs.Choice.{is_of_client, is_of_fileset}
use Rattle.br_jobs.specs.declared.job_filter.Filter.{Filter}

-- whether the job has the given client and file set and is from before the given moment
abbrev pub is_listed : Filter → JobRows → Bool
is_listed f j =
    option_map_or (λ c. is_of_client c.now j) f.client true && option_map_or (λ s. is_of_fileset s.now j) f.fileset true
    && option_map_or (λ m. nat_lt j.row.start m) f.before true

-- the jobs that are listed, in their order
abbrev pub jobs_listed : Filter → List JobRows → List JobRows
jobs_listed f jobs = filter (is_listed f) jobs
