use Rattle.std.proofs.Common.{length}
use Rattle.br_data.specs.ManyDrives.{GoOn}
use Rattle.br_reread_files.specs.Digesting.{ReadsOn}
use Rattle.br_reread_files.proofs.both_digested.digest_while_both.Given as goal

-- both files were read on
abbrev pub invariant-loop-alloc : goal.invariant-loop-alloc
invariant-loop-alloc g l = record {
  on : GoOn l.fn.many l.many;
  one : ReadsOn l.fn.many l.fn.one.hits.items l.fn.rest.one.now l.one l.left.one.now;
  other : ReadsOn l.fn.many l.fn.other.hits.items l.fn.rest.other.now l.other l.left.other.now;
}

abbrev pub decreases-loop-alloc : goal.decreases-loop-alloc
decreases-loop-alloc g l = length l.left.one.now
