use Rattle.br_model.proofs.WrittenSessionLaws.{written_sessions_hold_lem}
use Rattle.br_model.proofs.written_sessions_hold.Goals as goal

pub returns : goal.returns
returns c = written_sessions_hold_lem
