use Rattle.std.proofs.Common.{[]}
use Rattle.std.specs.Io.KnownBytes.{Appends}
use Rattle.br_data.proofs.body_writing.write_some.Given as goal

-- nothing was written
abbrev pub invariant-loop : goal.invariant-loop
invariant-loop g l = Appends (g.W.Write.contents l.initial.writer) (g.W.Write.contents l.writer) []
