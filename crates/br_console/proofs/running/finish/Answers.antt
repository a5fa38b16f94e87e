use Rattle.std.proofs.Common.{refl}
use Rattle.br_console.proofs.running.finish.Goals as goal

pub returns-in-Ok-clause-finishes : goal.returns-in-Ok-clause-finishes
returns-in-Ok-clause-finishes g c = rw (c.in_ok-lines.was, c.in-Some.is) (c.in-Ok.done, refl, c.in-Ok.ensures.restores)
