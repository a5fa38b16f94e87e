-- The gaps between numbers that are in order, one after the other.
use Rattle.std.specs.Prelude.{ℕ, ◌+◌, ◌-◌, nat_lt, nat_le, max, List, [], ◌∷◌, ◌++◌, if◌then◌else◌}
use Rattle.br_model.specs.Bootstrap.{Range}

-- the range from one number to another, the second number excluded
abbrev pub up_to : ℕ → ℕ → List Range
up_to a b = if nat_lt a b then record { low = a; high = b - 1 } ∷ [] else []

-- the range from one number to another, the second number included
abbrev pub to_end : ℕ → ℕ → List Range
to_end a b = if nat_le a b then record { low = a; high = b } ∷ [] else []

-- the gaps between numbers, from one number to another
abbrev pub gaps : ℕ → ℕ → List ℕ → List Range
gaps next high [] = to_end next high
gaps next high (n ∷ ns) = up_to next n ++ gaps (max next (n + 1)) high ns
