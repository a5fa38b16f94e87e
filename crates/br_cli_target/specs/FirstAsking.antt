-- The ranges of indexes that groups ask for in one session, and the first group that asks for a
-- file.
use Rattle.std.specs.Prelude.{◌≡◌, ℕ, ◌<◌, ◌^◌, Bool, List, [], ◌∷◌, find, flat_map, map, max, Option, option_map, if◌then◌else◌}
use Rattle.std.specs.Borrow.{Bor}
use Rattle.std.specs.Int.{is_in_range}
use Rattle.br_piece.specs.Missing.{admits_session}
use Rattle.br_model.specs.Bootstrap.{Range, Group}
use Rattle.br_model.specs.Name.{SessionKey, FileKey}
use Rattle.br_model.specs.Text.{is_empty}
use Rattle.br_cli_target.specs.NarrowedGroups.{asks_for}

-- a range of indexes, and the group that asks for it
abbrev pub AskingGroup : Type 0
AskingGroup = Range × Group

-- the same with a borrowed group
abbrev pub shown : Range × Bor Group → AskingGroup
shown a = (a.0, a.1.now)

-- the range of all indexes
abbrev pub all_indexes : Range
all_indexes = record { low = 0; high = 18446744073709551615 }

-- the ranges of indexes that the group asks for
abbrev pub ranges_of : Group → List Range
ranges_of g = if is_empty g.indexes then all_indexes ∷ [] else g.indexes

-- the ranges that the group asks for in the session
abbrev pub asked_by : SessionKey → Group → List AskingGroup
asked_by session g = if admits_session g session then map (λ r. (r, g)) (ranges_of g) else []

-- the ranges that the groups ask for in the session, in their order
unfoldable pub asked_of : SessionKey → List Group → List AskingGroup
asked_of session groups = flat_map (asked_by session) groups

-- whether the index is in the range
abbrev pub has_index : ℕ → AskingGroup → Bool
has_index n a = is_in_range a.0.low a.0.high n

-- the group of the first range with the index
abbrev pub first_asked : ℕ → List AskingGroup → Option Group
first_asked n asked = option_map (λ (a : AskingGroup). a.1) (find (has_index n) asked)

-- for each range the greatest of a number and the ends up to this range
abbrev pub reaches_from : ℕ → List AskingGroup → List ℕ
reaches_from n [] = []
reaches_from n (a ∷ more) = max n a.0.high ∷ reaches_from (max n a.0.high) more

-- the first group that asks for the file, by the ranges of its session
abbrev pub AsksFirst : Type 0
AsksFirst = (groups : List Group) (key : FileKey) → key.index < 2 ^ 64 → first_asked key.index (asked_of key.session groups) ≡ find (asks_for key) groups
