use Rattle.br_core.proofs.RunLaws.{headline_lem}
use Rattle.br_core.proofs.headline.Goals as goal

pub returns : goal.returns
returns c = headline_lem
