use Rattle.std.proofs.Common.{length}
use Rattle.br_data.specs.ManyDrives.{GoOn}
use Rattle.br_reread_files.specs.Digesting.{ReadsOn}
use Rattle.br_reread_files.proofs.digesting.digest_rest.Given as goal

-- the file was read on
abbrev pub invariant-loop-left : goal.invariant-loop-left
invariant-loop-left g l = record {
  on : GoOn l.fn.many l.many;
  read : ReadsOn l.fn.many l.fn.begun.hits.items l.fn.rest l.begun l.left;
}

abbrev pub decreases-loop-left : goal.decreases-loop-left
decreases-loop-left g l = length l.left
