-- The table's rows as text.
use Rattle.std.specs.Prelude.{ℕ, ◌+◌, if◌then◌else◌, ◌&&◌, nat_le, Bool, List, [], ◌∷◌, ◌++◌, codes, decimal, length, position, Option, Some, None}
use Rattle.br_model.specs.Text.{is_space}
use Rattle.br_cli_common.specs.RefusalTable.{is_outcome}
use Rattle.br_cli_common.specs.declared.refusal.Refusal.{Refusal}

abbrev pub place_or : ℕ → Option ℕ → ℕ
place_or all None = all
place_or all (Some at) = at

-- the number of bytes before the first space
unfoldable pub word_len : List ℕ → ℕ
word_len text = place_or (length text) (position is_space text)

-- a space becomes a new line if the word after it would end after column 79
abbrev pub is_break : ℕ → ℕ → List ℕ → Bool
is_break column byte rest = is_space byte && nat_le 79 (column + word_len rest)

-- words from a column on: each new line begins with nine spaces
unfoldable pub wrapped : ℕ → List ℕ → List ℕ
wrapped column [] = []
wrapped column (byte ∷ rest) =
    if is_break column byte rest then codes "\n         " ++ wrapped 9 rest
    else byte ∷ wrapped (column + 1) rest

-- a label of nine columns, and the words after it
abbrev pub field_text : List ℕ → List ℕ → List ℕ
field_text label words = label ++ wrapped 9 words ++ codes "\n"

-- the line with number and name
abbrev pub heading_text : Refusal → List ℕ
heading_text refusal =
    (if is_outcome refusal.number then codes "outcome " else codes "refused ")
    ++ decimal refusal.number ++ codes "  " ++ refusal.name.now ++ codes "\n"

-- a row: the line with number and name, what it means, and what to do next
abbrev pub refusal_text : Refusal → List ℕ
refusal_text refusal =
    heading_text refusal ++ field_text (codes "  means: ") refusal.meaning.now ++ field_text (codes "  next:  ") refusal.next.now
