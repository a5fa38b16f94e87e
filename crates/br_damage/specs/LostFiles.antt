-- The files that groups on lost volumes ask for.
use Rattle.std.specs.Prelude.{◌≡◌, ℕ, ◌+◌, ◌<◌, ◌≤◌, Bool, nat_lt, nat_le, ◌&&◌, List, [], ◌∷◌, map, flat_map, max, min, Option, Some, None, if◌then◌else◌}
use Rattle.std.specs.List.{list_any}
use Rattle.std.specs.List.Sorted.{IsNonDecreasingBy}
use Rattle.br_model.specs.Name.{SessionKey}
use Rattle.br_model.specs.Bootstrap.{Range, Group}
use Rattle.br_model.specs.Text.{is_empty}
use Rattle.br_piece.specs.MissingLines.{greatest_index}
use Rattle.br_damage.specs.GroupSessions.{place, session_of}
use Rattle.br_damage.specs.declared.lost_files.Span.{Span}

-- the files of the session with these indexes, up to the greatest index that a file can have
abbrev pub span_of : SessionKey → Range → Span
span_of s r = record { low = place s r.low; end = place s (min r.high greatest_index) + 1 }

-- the range of all indexes
abbrev pub all_indexes : Range
all_indexes = record { low = 1; high = greatest_index }

-- the ranges of indexes that the group asks for
abbrev pub ranges_of : Group → List Range
ranges_of g = if is_empty g.indexes then all_indexes ∷ [] else g.indexes

-- the files of the session, if there is one, with indexes in these ranges
abbrev pub spans_with : Option SessionKey → List Range → List Span
spans_with None rs = []
spans_with (Some s) rs = map (span_of s) rs

-- the files that the group asks for, if it names a session
abbrev pub spans_of : Group → List Span
spans_of g = spans_with (session_of g) (ranges_of g)

-- the files that the groups ask for
unfoldable pub spans : List Group → List Span
spans groups = flat_map spans_of groups

-- whether the place is in the span
abbrev pub is_within : ℕ → Span → Bool
is_within p s = nat_le s.low p && nat_lt p s.end

-- whether one of the spans has the place
abbrev pub has_place : List Span → ℕ → Bool
has_place ss p = list_any (is_within p) ss

-- the spans have the same places from one place on
abbrev pub AgreeFrom : ℕ → List Span → List Span → Type 0
AgreeFrom place xs ys = (p : ℕ) → place ≤ p → has_place xs p ≡ has_place ys p

-- the spans have the same places before one place
abbrev pub AgreeBefore : ℕ → List Span → List Span → Type 0
AgreeBefore place xs ys = (p : ℕ) → p < place → has_place xs p ≡ has_place ys p

-- the spans are in order of their first places
abbrev pub Rise : List Span → Type 0
Rise ss = IsNonDecreasingBy (λ (s : Span). s.low) ss

-- for each span the greatest of a number and the ends up to this span
abbrev pub reaches_from : ℕ → List Span → List ℕ
reaches_from n [] = []
reaches_from n (s ∷ more) = max n s.end ∷ reaches_from (max n s.end) more
