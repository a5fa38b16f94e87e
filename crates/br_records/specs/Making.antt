-- The reason why no file was made, as in the model.
use Rattle.std.specs.Prelude.{ℕ, List, Option, Some, None, Result}
use Rattle.br_model.specs.Answer.{refused_as}
use Rattle.br_model.specs.Attribute.{Attributes, read_attributes}
use Rattle.br_model.specs.File as model
use Rattle.br_attr.specs.declared.fault.AttrFault.{AttrFault}
use Rattle.br_attr.specs.declared.fault.AttrFault.TheVariants as attr
use Rattle.br_records.specs.declared.making_fault.FileFault.{FileFault}
use Rattle.br_records.specs.declared.making_fault.FileFault.TheVariants.{Orphan, Torn, SizeDiffers, NoAttributes, BadAttributes, Unsupported, DigestDiffers, SparseBack, TooLarge, NameDiffers}
use Rattle.br_records.specs.declared.making_fault.MakingFault.{MakingFault}
use Rattle.br_records.specs.declared.making_fault.MakingFault.TheVariants.{Memory, File}

-- the fault of the file, with its number and its stream
abbrev pub file_fault : FileFault → model.Fault
file_fault Orphan = model.fault 60
file_fault Torn = model.fault 61
file_fault SizeDiffers = model.fault 62
file_fault NoAttributes = model.fault 63
file_fault BadAttributes = model.fault 64
file_fault (Unsupported stream) = record { number = 65; stream = stream }
file_fault DigestDiffers = model.fault 66
file_fault SparseBack = model.fault 67
file_fault TooLarge = model.fault 68
file_fault NameDiffers = model.fault 69

-- the fault of the file; none if memory ran out
abbrev pub cause : MakingFault → Option model.Fault
cause Memory = None
cause (File fault) = Some (file_fault fault)

-- the fault of a file whose attributes were refused: 64, unless memory ran out
abbrev pub making_fault : AttrFault → MakingFault
making_fault attr.Memory = Memory
making_fault attr.BadNumber = File BadAttributes
making_fault attr.MissingField = File BadAttributes
making_fault attr.BadName = File BadAttributes
making_fault attr.IndexDiffers = File BadAttributes

-- the attributes in some bytes; 64 if they cannot be read
abbrev pub read_or_64 : List ℕ → ℕ → Result Attributes model.Fault
read_or_64 bytes index = refused_as (λ _. model.fault 64) (read_attributes bytes index)
