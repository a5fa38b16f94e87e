use Rattle.std.proofs.Common.{take}
use Rattle.br_jobs.specs.JobNumbers.{AreNumbers}
use Rattle.br_jobs.proofs.job_listing.numbers_of.Given as goal

-- the numbers of the jobs so far
abbrev pub invariant-loop-job : goal.invariant-loop-job
invariant-loop-job l = AreNumbers (take l.job-index l.jobs) l.numbers
