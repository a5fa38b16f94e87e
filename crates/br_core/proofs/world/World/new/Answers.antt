use Rattle.br_core.proofs.StepLaws.{nothing_reached}
use Rattle.br_core.proofs.world.World.new.Goals as goal

pub invariant_of-result : goal.invariant_of-result
invariant_of-result c = rw (c.new.ensures, c.new-2.ensures.items) nothing_reached
