-- The number of indexes that a bootstrap asks for and that are missing.
use Rattle.std.specs.Prelude.{ℕ, ◌+◌, ◌-◌, ◌^◌, nat_lt, min, sum_by, List, if◌then◌else◌}
use Rattle.br_model.specs.Name.{FileKey}
use Rattle.br_model.specs.Bootstrap.{Group}
use Rattle.br_piece.specs.MissingLines.{greatest_index}
use Rattle.br_piece.specs.Missing.{missing}
use Rattle.br_piece.specs.declared.lacking.Gap.{Gap}

-- a number, or 2^64 - 1 if it is greater
abbrev pub capped : ℕ → ℕ
capped n = min n (2 ^ 64 - 1)

-- The number of indexes of a run. A run up to the greatest index counts for none: its range asks
-- for all files from its first on.
abbrev pub size_of : Gap → ℕ
size_of gap = if nat_lt gap.indexes.high greatest_index then gap.indexes.high - gap.indexes.low + 1 else 0

-- the number of indexes that a bootstrap asks for and that none of the files has
unfoldable pub absent : List Group → List FileKey → ℕ
absent groups keys = sum_by size_of (missing groups keys)
