use denote.Param.Send.{IsSync, part_keyless}
use Rattle.br_claim.proofs.KeptValues.{kept_send}
use Rattle.br_claim.specs.contracts.kept.Kept.{the_row}

pub sync : IsSync the_row
sync = record { shared = λ d b o ν q. part_keyless the_row kept_send q d b o }
