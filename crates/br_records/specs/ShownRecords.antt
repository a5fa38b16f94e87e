-- A sketch as its outline or its fault.
use Rattle.std.specs.Prelude.{Ok, Err}
use Rattle.br_model.specs.Name.{FileKey}
use Rattle.br_records.specs.Making.{file_fault}
use Rattle.br_records.specs.Outline.{Foreseen, Outlined}
use Rattle.br_records.specs.declared.outline.Sketch.{Sketch}
use Rattle.br_records.specs.declared.outline.Sketch.TheVariants as sketch

abbrev pub shown : Sketch → Foreseen
shown (sketch.File outline) = Ok outline
shown (sketch.Fault why) = Err (file_fault why)

-- with the key of its file
abbrev pub outlined : FileKey × Sketch → Outlined
outlined s = record { key = s.0; outline = shown s.1 }
