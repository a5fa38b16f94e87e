-- The numbers of refused records.
use Rattle.std.specs.Prelude.{ℕ, Option, Some, None}
use Rattle.br_types.specs.declared.fault.NameFault.{NameFault}
use Rattle.br_types.specs.declared.fault.NameFault.TheVariants as names
use Rattle.br_attr.specs.declared.fault.AttrFault.{AttrFault}
use Rattle.br_attr.specs.declared.fault.AttrFault.TheVariants.{Memory, BadNumber, MissingField, BadName, IndexDiffers}

-- the number of a refusal
abbrev pub fault_number : AttrFault → ℕ
fault_number Memory = 1
fault_number BadNumber = 20
fault_number MissingField = 21
fault_number BadName = 22
fault_number IndexDiffers = 23

-- the refusal that the model decides: none if memory ran out
abbrev pub cause : AttrFault → Option ℕ
cause Memory = None
cause BadNumber = Some 20
cause MissingField = Some 21
cause BadName = Some 22
cause IndexDiffers = Some 23

-- a bad path or name is a bad name, and out of memory is out of memory
abbrev pub of_name_fault : NameFault → AttrFault
of_name_fault names.Memory = Memory
of_name_fault names.BadName = BadName
of_name_fault names.BadPath = BadName
