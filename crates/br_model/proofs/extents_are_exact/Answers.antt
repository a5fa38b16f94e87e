use Rattle.br_model.proofs.ExtentLaws.{extents_are_exact_lem}
use Rattle.br_model.proofs.extents_are_exact.Goals as goal

pub returns : goal.returns
returns c = extents_are_exact_lem
