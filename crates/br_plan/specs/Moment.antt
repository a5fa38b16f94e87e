-- The parts of a moment's text, and of a moment.
use Rattle.std.specs.Prelude.{ℕ, ◌≤◌, Bool, ◌&&◌, ◌==◌, List, length, slice_index}
use Rattle.br_model.specs.Moment.{Moment, digits_in}

-- the text has 19 bytes and begins with YYYY-MM-DD
abbrev pub has_date : List ℕ → Bool
has_date text = length text == 19 && digits_in 0 4 text && slice_index text 4 == 45 && digits_in 5 2 text && slice_index text 7 == 45 && digits_in 8 2 text

-- the numbers of a moment are of four digits for the year, and of two for each other part
abbrev pub IsWritten : Moment → Type 0
IsWritten m = (m.year ≤ 9999) × (m.month ≤ 99) × (m.day ≤ 99) × (m.hour ≤ 99) × (m.minute ≤ 99) × (m.second ≤ 99)
