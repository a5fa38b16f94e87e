use Rattle.std.proofs.Common.{map, take}
use Rattle.br_view.specs.Newest.{IsNewest}
use Rattle.br_view.proofs.newest.newest_copies.Given as goal

-- the jobs so far are noted
abbrev pub invariant-loop-job : goal.invariant-loop-job
invariant-loop-job l = IsNewest (map (λ j. j.now) (take l.job-index l.jobs)) l.kept
