-- The indexes that a bootstrap asks for and that no file has.
use Rattle.std.specs.Prelude.{ℕ, ◌+◌, ◌-◌, Bool, not, ◌&&◌, ◌==◌, List, map, filter, flat_map}
use Rattle.std.specs.List.{list_any, enumerate_from, range_with_len}
use Rattle.br_model.specs.Name.{SessionKey, FileKey}
use Rattle.br_model.specs.Bootstrap.{Range, Group, admits}
use Rattle.br_model.specs.Plan.{ranges_of}
use Rattle.br_piece.specs.declared.lacking.Gap.{Gap}

-- the group admits the number and the time of the session
abbrev pub admits_session : Group → SessionKey → Bool
admits_session g s = admits g.session_ids s.id && admits g.session_times s.time

-- whether a file with this index exists, of a session that the group admits
unfoldable pub is_there : Group → List FileKey → ℕ → Bool
is_there g keys i = list_any (λ (k : FileKey). admits_session g k.session && k.index == i) keys

-- the numbers of a range
abbrev pub numbers_in : Range → List ℕ
numbers_in r = range_with_len r.low (r.high + 1 - r.low)

-- the numbers of a range without such a file, as ranges, each as long as possible
unfoldable pub missing_in : Group → List FileKey → Range → List Range
missing_in g keys r = ranges_of (filter (λ i. not (is_there g keys i)) (numbers_in r))

-- the missing ranges for all ranges of indexes of the group, one range after the other
abbrev pub missing_for : Group → List FileKey → List Range
missing_for g keys = flat_map (missing_in g keys) g.indexes

-- a run of indexes in the group at this place
abbrev pub in_group : ℕ → Range → Gap
in_group place run = record { group = place; indexes = run }

-- the indexes that a group at this place asks for and that are missing
abbrev pub missing_at : List FileKey → ℕ × Group → List Gap
missing_at keys g = map (in_group g.0) (missing_for g.1 keys)

-- the missing indexes of all groups, one group after the other
unfoldable pub missing : List Group → List FileKey → List Gap
missing groups keys = flat_map (missing_at keys) (enumerate_from 0 groups)
