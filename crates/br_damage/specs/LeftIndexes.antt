-- The indexes that are left of those that a group asks for.
use Rattle.std.specs.Prelude.{◌≡◌, ℕ, ◌-◌, ◌≤◌, Bool, true, not, ◌&&◌, ◌||◌, nat_lt, List, [], ◌∷◌, ◌++◌, max, min, if◌then◌else◌}
use Rattle.std.specs.Int.{is_in_range}
use Rattle.std.specs.List.{list_all, list_any}
use Rattle.br_model.specs.Name.{SessionKey}
use Rattle.br_model.specs.Bootstrap.{Range, FileIndex}
use Rattle.br_model.specs.BootstrapText.{is_range}
use Rattle.br_piece.specs.MissingLines.{greatest_index}
use Rattle.br_damage.specs.GroupSessions.{place}
use Rattle.br_damage.specs.LostFiles.{has_place}
use Rattle.br_damage.specs.declared.lost_files.Span.{Span}

-- whether the index is in the range
abbrev pub is_inside : ℕ → Range → Bool
is_inside n r = is_in_range r.low r.high n

-- whether one of the ranges has the index
abbrev pub has_index : List Range → ℕ → Bool
has_index rs n = list_any (is_inside n) rs

-- the indexes of the files from one place up to another, after the place of the session's index 0
abbrev pub indexes_of : ℕ → ℕ → ℕ → List Range
indexes_of base low end = if nat_lt low end then record { low = low - base; high = end - 1 - base } ∷ [] else []

-- the same without the files of spans in order
abbrev pub indexes_without : ℕ → ℕ → ℕ → List Span → List Range
indexes_without base next end [] = indexes_of base next end
indexes_without base next end (s ∷ more) = indexes_of base next (min end s.low) ++ indexes_without base (max next s.end) end more

-- whether the index is one of a range, and its file is not lost
abbrev pub is_left : List Span → SessionKey → Range → ℕ → Bool
is_left lost session range n = is_inside n range && not (has_place lost (place session n))

-- ranges with those indexes more
abbrev pub LeavesOf : List Span → SessionKey → Range → List Range → List Range → Type 0
LeavesOf lost session range old new = (n : ℕ) → n ≤ greatest_index → has_index new n ≡ (has_index old n || is_left lost session range n)

-- of some ranges the indexes whose files are not lost
abbrev pub AreLeft : List Span → SessionKey → List Range → List Range → Type 0
AreLeft lost session ranges left = (n : ℕ) → n ≤ greatest_index → has_index left n ≡ (has_index ranges n && not (has_place lost (place session n)))

-- a bootstrap may ask for the indexes in these ranges
abbrev pub are_valid : List Range → Bool
are_valid rs = list_all (is_range FileIndex) rs

-- these ranges are valid, if those before them and the range are
abbrev pub StayValid : Range → List Range → List Range → Type 0
StayValid range old new = is_range FileIndex range ≡ true → are_valid old ≡ true → are_valid new ≡ true
