use Rattle.br_match.proofs.ComeLaws.{come_is_reached}
use Rattle.br_match.proofs.come_hits_are_reached.Goals as goal

pub returns : goal.returns
returns c = come_is_reached
