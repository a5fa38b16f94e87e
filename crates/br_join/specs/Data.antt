-- The data of records, one after another.
use Rattle.std.specs.Prelude.{ℕ, List, ◌++◌, length, Result, Ok}
use Rattle.br_model.specs.Answer.{◌>>=◌}
use Rattle.br_model.specs.File as model
use Rattle.br_model.specs.Record.{Record}

-- bytes with the data of more records
abbrev pub laid_from : List ℕ → List Record → Result (List ℕ) ℕ
laid_from bytes records = do
  extents ← model.extents_from (length bytes) records
  Ok (bytes ++ model.bytes_from (length bytes) extents)
