use Rattle.std.proofs.Common.{length}
use Rattle.br_data.specs.ManyDrives.{GoOn}
use Rattle.br_reread_parts.specs.Steps.{PutsOn, step_of}
use Rattle.br_reread_parts.proofs.both.put_while_both.Given as goal

-- both files were written on
abbrev pub invariant-loop-many : goal.invariant-loop-many
invariant-loop-many g l = record {
  on : GoOn l.fn.many l.many;
  one : PutsOn l.fn.many (g.W.Write.contents l.fn.first) (g.W.Write.contents l.first) (step_of l.fn.read.one l.fn.next.one) (step_of l.read.one l.next.one);
  other : PutsOn l.fn.many (g.W.Write.contents l.fn.second) (g.W.Write.contents l.second) (step_of l.fn.read.other l.fn.next.other) (step_of l.read.other l.next.other);
}

abbrev pub decreases-loop-many : goal.decreases-loop-many
decreases-loop-many g l = length l.next.one.rest.now
