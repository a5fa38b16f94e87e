-- The numbers of refused rows and of a refused job.
use Rattle.std.specs.Prelude.{ℕ, Option, Some, None}
use Rattle.br_history.specs.declared.fault.HistoryFault.{HistoryFault}
use Rattle.br_history.specs.declared.fault.HistoryFault.TheVariants.{Memory, DuplicateJob, DuplicateSession, BadRow}

-- the number of a refusal
abbrev pub fault_number : HistoryFault → ℕ
fault_number Memory = 1
fault_number DuplicateJob = 40
fault_number DuplicateSession = 41
fault_number BadRow = 42

-- the refusal that the model decides; none if memory ran out
abbrev pub cause : HistoryFault → Option ℕ
cause Memory = None
cause DuplicateJob = Some 40
cause DuplicateSession = Some 41
cause BadRow = Some 42
