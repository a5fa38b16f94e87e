-- How a script spells bytes and separates fields.
use Rattle.std.specs.Prelude.{ℕ, ◌+◌, if◌then◌else◌, ◌≡◌, List, [], ◌∷◌, bytes_eq, drop, take, position, MatchOption, Option, Some, None}
use Rattle.std.specs.Borrow.{Bor}
use Rattle.br_model.specs.Text.{is_empty, is_space}
use Rattle.br_types.specs.Escape.{byte_of, digit_value, in_front}

-- the bytes of pairs of hexadecimal digits in lower case
unfoldable pub pairs_read : List ℕ → Option (List ℕ)
pairs_read [] = Some []
pairs_read (last ∷ []) = None
pairs_read (high ∷ low ∷ text) = in_front (byte_of (digit_value high) (digit_value low)) (pairs_read text)

-- the bytes that a text spells: `-` is none, and else they are pairs of digits, at least one
unfoldable pub bytes_spelled : List ℕ → Option (List ℕ)
bytes_spelled text = if bytes_eq text (45 ∷ []) then Some [] else if is_empty text then None else pairs_read text

-- a text cut at a place: the text before it, and the text after it, if there is a place
abbrev pub cut_at : List ℕ → Option ℕ → List ℕ × Option (List ℕ)
cut_at text (Some at) = (take at text, Some (drop (at + 1) text))
cut_at text None = (text, None)

-- the text before the first space and, if there is a space, the text after it
unfoldable pub fields_of : List ℕ → List ℕ × Option (List ℕ)
fields_of text = cut_at text (position is_space text)

-- the two parts of a text that is cut at its first space
abbrev pub IsCut : List ℕ → List ℕ → Option (Bor (List ℕ)) → Type 0
IsCut text before after = MatchOption after (fields_of text ≡ (before, None)) (λ rest. fields_of text ≡ (before, Some rest.now))
