-- The numbers of refused lines and commands.
use Rattle.std.specs.Prelude.{ℕ, Option, Some, None}
use Rattle.br_mark.specs.declared.fault.MarkFault.{MarkFault}
use Rattle.br_mark.specs.declared.fault.MarkFault.TheVariants.{Memory, UnknownCommand, NoSuchDirectory, NoMatch}

-- the number of a refusal
abbrev pub fault_number : MarkFault → ℕ
fault_number Memory = 1
fault_number UnknownCommand = 55
fault_number NoSuchDirectory = 56
fault_number NoMatch = 57

-- the refusal that the model decides; none if memory ran out
abbrev pub cause : MarkFault → Option ℕ
cause Memory = None
cause UnknownCommand = Some 55
cause NoSuchDirectory = Some 56
cause NoMatch = Some 57
