use Rattle.std.proofs.Common.{◌≡◌, sum_by, take}
use Rattle.br_cli_target.specs.AbsentCount.{capped, size_of}
use Rattle.br_cli_target.proofs.absent_count.sum_of.Given as goal

-- the indexes of the runs so far
abbrev pub invariant-loop-gap : goal.invariant-loop-gap
invariant-loop-gap l = l.count ≡ capped (sum_by size_of (take l.gap-index l.gaps))
