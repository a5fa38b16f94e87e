-- How a script spells numbers.
use Rattle.std.specs.Prelude.{ℕ, nat_le, nat_lt, if◌then◌else◌, List, Option, Some, None, option_and_then}
use Rattle.br_model.specs.Text.{decimal_value}

-- a number, if it is at most this one
abbrev pub up_to : ℕ → ℕ → Option ℕ
up_to most n = if nat_le n most then Some n else None

-- a number, or 2 ^ 64 if it is greater
abbrev pub capped : ℕ → ℕ
capped n = if nat_lt n 18446744073709551616 then n else 18446744073709551616

-- the number that a text spells in decimal, with any number of leading zeros, if it is at most this one
unfoldable pub number_spelled : ℕ → List ℕ → Option ℕ
number_spelled most text = option_and_then (up_to most) (decimal_value text)
