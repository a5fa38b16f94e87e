use denote.Param.Send.{IsSend}
use Rattle.br_claim.proofs.KeptValues.{kept_send}
use Rattle.br_claim.specs.contracts.kept.Kept.{the_row}

pub send : IsSend the_row
send = kept_send
