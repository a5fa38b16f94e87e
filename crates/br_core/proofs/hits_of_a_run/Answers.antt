use Rattle.br_core.proofs.RunLaws.{hits_of_a_run_lem}
use Rattle.br_core.proofs.hits_of_a_run.Goals as goal

pub returns : goal.returns
returns c = hits_of_a_run_lem
