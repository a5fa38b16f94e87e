-- The numbers and causes of a drive's faults.
use Rattle.std.specs.Prelude.{ℕ, Option, Some, None}
use Rattle.br_volume.specs.declared.fault.DriveFault.{DriveFault}
use Rattle.br_volume.specs.declared.fault.DriveFault.TheVariants.{Memory, Fault, UnknownVolume}

-- the number of a refusal
abbrev pub fault_number : DriveFault → ℕ
fault_number Memory = 1
fault_number Fault = 13
fault_number UnknownVolume = 14

-- the refusal that the volumes decide; none if memory ran out or the drive failed
abbrev pub cause : DriveFault → Option ℕ
cause Memory = None
cause Fault = None
cause UnknownVolume = Some 14

-- the refusal that the volumes and the number of calls decide; none if memory ran out
abbrev pub failing_cause : DriveFault → Option ℕ
failing_cause Memory = None
failing_cause Fault = Some 13
failing_cause UnknownVolume = Some 14
