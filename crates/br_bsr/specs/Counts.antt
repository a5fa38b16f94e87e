-- The `Count` of each group of a bootstrap's text.
use Rattle.std.specs.Prelude.{◌≡◌, ℕ, false, if◌then◌else◌, List, [], ◌∷◌, ◌++◌, length, fold, codes, Option, Some, None, Ok}
use Rattle.std.specs.List.{list_any, before_first, after_first}
use Rattle.std.specs.Str.Lines.{lines}
use Rattle.br_model.specs.Bootstrap.{Group}
use Rattle.br_model.specs.BootstrapText.{before_comment, is_equals, read_bootstrap, trimmed}
use Rattle.br_types.specs.DecimalField.{number_spelled}
use Rattle.br_bsr.specs.Keyword.{is_name_of}

-- the contents of a line: the text without its comment and the blanks at its ends
abbrev pub stated : List ℕ → List ℕ
stated text = trimmed (before_comment false text)

-- the counts with this number for the last group
abbrev pub with_last : ℕ → List (Option ℕ) → List (Option ℕ)
with_last n [] = []
with_last n (c ∷ []) = Some n ∷ []
with_last n (c ∷ d ∷ more) = c ∷ with_last n (d ∷ more)

-- the counts with this number, if it is one
abbrev pub with_number : Option ℕ → List (Option ℕ) → List (Option ℕ)
with_number None counts = counts
with_number (Some n) counts = with_last n counts

-- the counts after a value of `Count`; a value that is no number up to 2 ^ 64 - 1 is ignored
abbrev pub with_value : List ℕ → List (Option ℕ) → List (Option ℕ)
with_value value counts = with_number (number_spelled 18446744073709551615 value) counts

-- the counts after an assignment: `Volume` begins a group, which has none so far
abbrev pub with_word : List ℕ → List ℕ → List (Option ℕ) → List (Option ℕ)
with_word word value counts =
    if is_name_of word (codes "volume") then counts ++ None ∷ []
    else if is_name_of word (codes "count") then with_value value counts
    else counts

-- the counts after what a line states
abbrev pub with_stated : List ℕ → List (Option ℕ) → List (Option ℕ)
with_stated text counts =
    if list_any is_equals text then with_word (trimmed (before_first is_equals text)) (trimmed (after_first is_equals text)) counts
    else counts

-- the counts after a line
abbrev pub with_line : List (Option ℕ) → List ℕ → List (Option ℕ)
with_line counts text = with_stated (stated text) counts

-- for each group of a text its count: the last one that is a number
unfoldable pub counts : List ℕ → List (Option ℕ)
counts text = fold with_line [] (lines text)

-- each group that a text states has one place among the counts
abbrev pub EachGroupHasOne : Type 0
EachGroupHasOne = (text : List ℕ) (groups : List Group) → read_bootstrap text ≡ Ok groups → length (counts text) ≡ length groups
