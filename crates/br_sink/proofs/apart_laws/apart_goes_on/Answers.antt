use Rattle.br_sink.proofs.ApartGoesOnLaws.{apart_goes_on_lem}
use Rattle.br_sink.proofs.apart_laws.apart_goes_on.Goals as goal

pub returns : goal.returns
returns c = apart_goes_on_lem
