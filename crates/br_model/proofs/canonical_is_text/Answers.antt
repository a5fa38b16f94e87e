use Rattle.br_model.proofs.CanonicalLaws.{canonical_is_text_lem}
use Rattle.br_model.proofs.canonical_is_text.Goals as goal

pub returns : goal.returns
returns c = canonical_is_text_lem
