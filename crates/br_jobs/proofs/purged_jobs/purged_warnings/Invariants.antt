use Rattle.std.proofs.Common.{◌≡◌, take, map}
use Rattle.br_jobs.specs.PurgedJobs.{warnings}
use Rattle.br_jobs.proofs.purged_jobs.purged_warnings.Given as goal

-- the lines of the jobs so far
abbrev pub invariant-loop-job : goal.invariant-loop-job
invariant-loop-job l = l.text.items ≡ warnings (map (λ j. j.now) (take l.job-index l.jobs))
