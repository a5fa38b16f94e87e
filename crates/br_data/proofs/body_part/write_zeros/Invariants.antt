use Rattle.std.proofs.Common.{◌≤◌, ◌-◌, replicate}
use Rattle.std.specs.Io.KnownBytes.{Appends}
use Rattle.br_data.proofs.body_part.write_zeros.Given as goal

-- the zeros that are not left were written
abbrev pub invariant-loop-left : goal.invariant-loop-left
invariant-loop-left g l = (l.left ≤ l.count) × Appends (g.W.Write.contents l.initial.writer) (g.W.Write.contents l.writer) (replicate (l.count - l.left) 0)

abbrev pub decreases-loop-left : goal.decreases-loop-left
decreases-loop-left g l = l.left
