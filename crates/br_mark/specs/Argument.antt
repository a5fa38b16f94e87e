-- The argument of a command.
use Rattle.std.specs.Prelude.{ℕ, if◌then◌else◌, List, Option, Some, None, Result, Ok, Err}
use Rattle.br_model.specs.Text.{is_empty}

-- an argument that a command needs, or 55
abbrev pub needed_text : List ℕ → Result (List ℕ) ℕ
needed_text text = if is_empty text then Err 55 else Ok text

-- an argument that may be missing
abbrev pub wanted_text : List ℕ → Option (List ℕ)
wanted_text text = if is_empty text then None else Some text
