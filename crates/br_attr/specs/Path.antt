-- A path of a record.
use Rattle.std.specs.Prelude.{ℕ, List, Result, Ok, Err, if◌then◌else◌}
use Rattle.br_model.specs.Name.{is_path}

-- the path, or 22
unfoldable pub path_or_fault : List ℕ → Result (List ℕ) ℕ
path_or_fault bytes = if is_path bytes then Ok bytes else Err 22
