-- The result of a restore for one file, as the model states it.
use Rattle.std.specs.Prelude.{Ok, Err}
use Rattle.br_model.specs.Name as name
use Rattle.br_model.specs.File as model
use Rattle.br_model.specs.Restored.{Restored}
use Rattle.br_join.specs.declared.item.Outcome.{Outcome}
use Rattle.br_join.specs.declared.item.Outcome.TheVariants.{File, Fault}

-- the file, or the fault with its number and its stream
abbrev pub shown : Outcome → model.Outcome
shown (File item) = Ok item
shown (Fault number stream) = Err (record { number = number; stream = stream })

-- the file of a restore for an outcome and its key
abbrev pub restored : name.FileKey × Outcome → Restored
restored r = record { key = r.0; outcome = shown r.1 }
