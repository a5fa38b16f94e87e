use Rattle.br_core.proofs.CommitLaws.{jobs_hold_lem}
use Rattle.br_core.proofs.jobs_hold.Goals as goal

pub returns : goal.returns
returns c = jobs_hold_lem
