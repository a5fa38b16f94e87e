use Rattle.br_model.proofs.MeaningLaws.{meaning_is_of_laid_lem}
use Rattle.br_model.proofs.meaning_is_of_laid.Goals as goal

pub returns : goal.returns
returns c = meaning_is_of_laid_lem
