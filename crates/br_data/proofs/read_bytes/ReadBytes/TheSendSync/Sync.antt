-- What is lent of read bytes is a part of what they own, which is nothing, so threads may share them.
use denote.Param.Send.{IsSync, part_keyless, owning_send}
use Rattle.br_data.specs.contracts.read_bytes.ReadBytes.{the_row, the_type}

pub sync : IsSync the_row
sync = record { shared = λ d b o κ q. part_keyless the_row (owning_send the_type tt (λ _. tt) (λ k x w. tt)) q d b o }
