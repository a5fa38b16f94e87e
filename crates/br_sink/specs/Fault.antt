-- The numbers of refusals.
use Rattle.std.specs.Prelude.{ℕ}
use Rattle.br_model.specs.File as model
use Rattle.br_sink.specs.declared.fault.SinkFault.{SinkFault}
use Rattle.br_sink.specs.declared.fault.SinkFault.TheVariants as sink
use Rattle.br_sink.specs.declared.fault.StopCause.{StopCause}
use Rattle.br_sink.specs.declared.fault.StopCause.TheVariants as stop

-- of a sink
abbrev pub fault_number : SinkFault → ℕ
fault_number sink.Memory = 1
fault_number sink.Fault = 80

-- of a delivery
abbrev pub cause_number : StopCause → ℕ
cause_number stop.Memory = 1
cause_number stop.Fault = 80
cause_number stop.Conflict = 81

-- the fault of a file, with the stream that it names
abbrev pub fault_of : ℕ → ℕ → model.Fault
fault_of n s = record { number = n; stream = s }
