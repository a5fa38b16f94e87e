use Rattle.br_match.proofs.ComeLaws.{come_is_meant}
use Rattle.br_match.proofs.come_hits_are_meant.Goals as goal

pub returns : goal.returns
returns c = come_is_meant
