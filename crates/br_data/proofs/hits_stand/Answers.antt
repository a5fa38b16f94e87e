use Rattle.br_data.proofs.StandLaws.{hits_stand_lem}
use Rattle.br_data.proofs.hits_stand.Goals as goal

pub returns : goal.returns
returns c = hits_stand_lem
