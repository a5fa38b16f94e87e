-- The numbers of refused choices.
use Rattle.std.specs.Prelude.{ℕ, Option, Some, None}
use Rattle.br_choose.specs.declared.fault.ChooseFault.{ChooseFault}
use Rattle.br_choose.specs.declared.fault.ChooseFault.TheVariants.{Memory, NoFull, UnknownClient, UnknownFileSet}

-- the number of a refusal
abbrev pub fault_number : ChooseFault → ℕ
fault_number Memory = 1
fault_number NoFull = 50
fault_number UnknownClient = 53
fault_number UnknownFileSet = 54

-- the refusal that the model decides; none if memory ran out
abbrev pub cause : ChooseFault → Option ℕ
cause Memory = None
cause NoFull = Some 50
cause UnknownClient = Some 53
cause UnknownFileSet = Some 54
