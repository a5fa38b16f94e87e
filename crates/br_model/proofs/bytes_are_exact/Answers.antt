use Rattle.br_model.proofs.ExtentLaws.{bytes_are_exact_lem}
use Rattle.br_model.proofs.bytes_are_exact.Goals as goal

pub returns : goal.returns
returns c = bytes_are_exact_lem
