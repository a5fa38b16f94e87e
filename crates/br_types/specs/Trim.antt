-- A text without the blanks at one of its ends.
use Rattle.std.specs.Prelude.{ℕ, List, reverse}
use Rattle.br_model.specs.Text.{is_blank, trim_front}

-- without those at its beginning
abbrev pub trimmed_front : List ℕ → List ℕ
trimmed_front text = trim_front is_blank text

-- without those at its end
abbrev pub trimmed_end : List ℕ → List ℕ
trimmed_end text = reverse (trim_front is_blank (reverse text))
