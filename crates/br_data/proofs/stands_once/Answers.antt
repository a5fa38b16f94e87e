use Rattle.br_data.proofs.StandLaws.{stands_once_lem}
use Rattle.br_data.proofs.stands_once.Goals as goal

pub returns : goal.returns
returns c = stands_once_lem
