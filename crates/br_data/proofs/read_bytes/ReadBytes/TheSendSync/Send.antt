-- Read bytes own nothing, so they may go to another thread.
use denote.Param.Send.{IsSend, owning_send}
use Rattle.br_data.specs.contracts.read_bytes.ReadBytes.{the_row, the_type}

pub send : IsSend the_row
send = owning_send the_type tt (λ d. tt) (λ k x w. tt)
