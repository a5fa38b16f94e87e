use Rattle.std.proofs.Common.{take}
use Rattle.br_jobs.specs.JobFilter.{jobs_listed}
use Rattle.br_jobs.specs.LocalTime.{AreLinesIn}
use Rattle.br_jobs.proofs.job_listing.list_jobs.Given as goal

-- the lines of the jobs so far
abbrev pub invariant-loop-job : goal.invariant-loop-job
invariant-loop-job l = AreLinesIn l.zones l.chosen (jobs_listed l.filter (take l.job-index l.jobs)) l.text.items
