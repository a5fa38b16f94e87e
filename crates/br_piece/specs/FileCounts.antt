-- The number of files that a group gets.
use Rattle.std.specs.Prelude.{ℕ, ◌+◌, max, Bool, ◌&&◌, List, [], ◌∷◌, count_by}
use Rattle.std.specs.List.{list_any}
use Rattle.std.specs.Int.{is_in_range}
use Rattle.br_model.specs.Name.{FileKey}
use Rattle.br_model.specs.Bootstrap.{Range, Group, admits}
use Rattle.br_piece.specs.Missing.{admits_session}
use Rattle.br_piece.specs.NearRanges.{is_asked}

-- the group asks for the file: it admits the session, and the index is in its ranges, if it has any
abbrev pub is_got : Group → FileKey → Bool
is_got g k = admits_session g k.session && admits g.indexes k.index

-- the number of files that the group asks for
unfoldable pub got : Group → List FileKey → ℕ
got g keys = count_by (is_got g) keys

-- ---- the same, one range after another

-- the part of a range from a number on; it may have no numbers
abbrev pub rest_from : ℕ → Range → Range
rest_from next r = record { low = max r.low next; high = r.high }

-- the number of files that the group asks for by the part of a range from a number on
abbrev pub got_in : Group → List FileKey → ℕ → Range → ℕ
got_in g keys next r = count_by (is_asked g (rest_from next r)) keys

-- the files by one range after another, of each the part after the ranges before it
abbrev pub got_by : Group → List FileKey → ℕ → List Range → ℕ
got_by g keys next [] = 0
got_by g keys next (r ∷ rs) = got_in g keys next r + got_by g keys (max next (r.high + 1)) rs

-- an index of a file is in one of the ranges
abbrev pub is_got_by : Group → List Range → FileKey → Bool
is_got_by g rs k = admits_session g k.session && list_any (λ (r : Range). is_in_range r.low r.high k.index) rs
