use Rattle.br_model.proofs.MeaningLaws.{meaning_has_hits_lem}
use Rattle.br_model.proofs.meaning_has_hits.Goals as goal

pub returns : goal.returns
returns c = meaning_has_hits_lem
