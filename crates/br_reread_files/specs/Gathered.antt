-- What was gathered for a restore.
use Rattle.std.specs.Prelude.{List, Option}
use Rattle.br_model.specs.Meaning.{Hit}
use Rattle.br_model.specs.Restored.{Names}

-- the hits in order of file and place, and the planned names, if there is a plan
pub record Gathered : Type 0 where
  pub hits : List Hit
  pub names : Option Names
