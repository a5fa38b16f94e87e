-- The numbers of refused names and paths.
use Rattle.std.specs.Prelude.{ℕ, Option, Some, None}
use Rattle.br_types.specs.declared.fault.NameFault.{NameFault}
use Rattle.br_types.specs.declared.fault.NameFault.TheVariants.{Memory, BadName, BadPath}

-- the number of a refusal
abbrev pub fault_number : NameFault → ℕ
fault_number Memory = 1
fault_number BadName = 2
fault_number BadPath = 3

-- the refusal that the model decides: none if memory ran out
abbrev pub cause : NameFault → Option ℕ
cause Memory = None
cause BadName = Some 2
cause BadPath = Some 3
