use Rattle.br_history.proofs.StayWholeLaws.{volumes_stay_whole_lem}
use Rattle.br_history.proofs.laws.volumes_stay_whole.Goals as goal

pub returns : goal.returns
returns c = volumes_stay_whole_lem
