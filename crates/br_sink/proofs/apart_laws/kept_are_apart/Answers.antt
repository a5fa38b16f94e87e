use Rattle.br_sink.proofs.ApartLaws.{kept_are_apart_lem}
use Rattle.br_sink.proofs.apart_laws.kept_are_apart.Goals as goal

pub returns : goal.returns
returns c = kept_are_apart_lem
