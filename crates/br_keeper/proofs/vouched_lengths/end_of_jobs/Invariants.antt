use Rattle.std.proofs.Common.{◌≡◌, take}
use Rattle.br_keeper.specs.Vouching.{end_of_jobs}
use Rattle.br_keeper.proofs.vouched_lengths.end_of_jobs.Given as goal

-- the end of the spans of the jobs so far
abbrev pub invariant-loop-job : goal.invariant-loop-job
invariant-loop-job l = l.end ≡ end_of_jobs l.fn.vol (take l.job-index l.jobs)
