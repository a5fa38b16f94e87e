use Rattle.std.proofs.Common.{◌≡◌, take}
use Rattle.br_history.proofs.history.copied.Given as goal

-- the jobs so far
abbrev pub invariant-loop-rows : goal.invariant-loop-rows
invariant-loop-rows l = l.history ≡ take l.rows-index l.jobs
