use Rattle.std.proofs.Common.{length}
use Rattle.br_data.specs.ManyDrives.{GoOn}
use Rattle.br_reread_parts.specs.Steps.{PutsOn, step_of}
use Rattle.br_reread_parts.proofs.ahead.put_rest.Given as goal

-- the file was written on
abbrev pub invariant-loop-many : goal.invariant-loop-many
invariant-loop-many g l = record {
  on : GoOn l.fn.many l.many;
  puts : PutsOn l.fn.many (g.W.Write.contents l.fn.writer) (g.W.Write.contents l.writer) (step_of l.fn.reading l.fn.ahead) (step_of l.reading l.ahead);
}

abbrev pub decreases-loop-many : goal.decreases-loop-many
decreases-loop-many g l = length l.ahead.rest.now
