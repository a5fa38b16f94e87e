-- What the fields of the lines of a job mean. A field without meaning is refused by 90.
use Rattle.std.specs.Prelude.{ℕ, if◌then◌else◌, List, [], ◌∷◌, Option, Some, None, Result, Ok, Err}
use Rattle.br_model.specs.Answer.{◌>>=◌, some_or, refused_as}
use Rattle.br_model.specs.Name.{checked_name, checked_volume_name, is_letter}
use Rattle.br_types.specs.Escape.{unescaped}
use Rattle.br_types.specs.DecimalField.{number_spelled}
use Rattle.br_types.specs.DecimalSpelling.{fields_of}

-- a field, if a text follows it
abbrev pub field_by : List ℕ × Option (List ℕ) → Result (List ℕ × List ℕ) ℕ
field_by (word, Some rest) = Ok (word, rest)
field_by (word, None) = Err 90

-- the first field of a text, and the text after it
unfoldable pub field : List ℕ → Result (List ℕ × List ℕ) ℕ
field text = field_by (fields_of text)

-- a field, if no text follows it
abbrev pub last_by : List ℕ × Option (List ℕ) → Result (List ℕ) ℕ
last_by (word, None) = Ok word
last_by (word, Some rest) = Err 90

-- the last field, which is the whole text
unfoldable pub last_field : List ℕ → Result (List ℕ) ℕ
last_field text = last_by (fields_of text)

-- the number that decimal digits spell, if it is at most this one
unfoldable pub number_said : ℕ → List ℕ → Result ℕ ℕ
number_said most text = some_or (number_spelled most text) 90

-- one letter
unfoldable pub letter_said : List ℕ → Result ℕ ℕ
letter_said (c ∷ []) = if is_letter c then Ok c else Err 90
letter_said [] = Err 90
letter_said (c ∷ d ∷ more) = Err 90

-- an escaped name
unfoldable pub name_said : List ℕ → Result (List ℕ) ℕ
name_said text = some_or (unescaped text) 90 >>= (λ name. refused_as (λ _. 90) (checked_name name))

-- the escaped name of a volume
unfoldable pub volume_said : List ℕ → Result (List ℕ) ℕ
volume_said text = some_or (unescaped text) 90 >>= (λ name. refused_as (λ _. 90) (checked_volume_name name))
