use Rattle.br_sink.proofs.ApartLaws.{apart_stay_whole_lem}
use Rattle.br_sink.proofs.apart_laws.apart_stay_whole.Goals as goal

pub returns : goal.returns
returns c = apart_stay_whole_lem
