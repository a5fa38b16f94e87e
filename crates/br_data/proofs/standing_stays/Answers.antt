use Rattle.br_data.proofs.StandLaws.{standing_stays_lem}
use Rattle.br_data.proofs.standing_stays.Goals as goal

pub returns : goal.returns
returns c = standing_stays_lem
