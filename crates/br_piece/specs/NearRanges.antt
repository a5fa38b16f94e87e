-- A part of some files that contains those of a range.
use Rattle.std.specs.Prelude.{◌≡◌, ℕ, ◌<◌, ◌≤◌, ◌⊎◌, ⊤, Bool, ◌&&◌, ◌||◌, nat_lt, nat_le, ◌==◌, List, [], ◌∷◌, map, filter, Option, Some, None, if◌then◌else◌}
use Rattle.std.specs.Int.{is_in_range}
use Rattle.std.specs.List.{AllByRecursion}
use Rattle.br_model.specs.Name.{SessionKey, FileKey}
use Rattle.br_model.specs.Bootstrap.{Range, Group}
use Rattle.br_piece.specs.Missing.{admits_session}

-- whether the group asks for the file by the range
abbrev pub is_asked : Group → Range → FileKey → Bool
is_asked g r k = admits_session g k.session && is_in_range r.low r.high k.index

-- the indexes of the files that the group asks for by the range
abbrev pub asked_indexes : Group → Range → List FileKey → List ℕ
asked_indexes g r keys = map (λ (k : FileKey). k.index) (filter (is_asked g r) keys)

-- the first file is not after the second, by session number, session time and index
abbrev pub IsUpTo : FileKey → FileKey → Type 0
IsUpTo a b =
    (a.session.id < b.session.id)
    ⊎ ((a.session.id ≡ b.session.id) × ((a.session.time < b.session.time) ⊎ ((a.session.time ≡ b.session.time) × (a.index ≤ b.index))))

-- files in order of key
abbrev pub AreSorted : List FileKey → Type 0
AreSorted [] = ⊤
AreSorted (k ∷ ks) = AllByRecursion (IsUpTo k) ks × AreSorted ks

-- the session has a smaller number, or this number and a smaller time
abbrev pub is_session_before : SessionKey → ℕ → ℕ → Bool
is_session_before s id time = nat_lt s.id id || s.id == id && nat_lt s.time time

-- the session has this number and this time
abbrev pub is_session : SessionKey → ℕ → ℕ → Bool
is_session s id time = s.id == id && s.time == time

-- the file comes before those of the session from an index on
abbrev pub is_before : ℕ → ℕ → ℕ → FileKey → Bool
is_before id time low k = is_session_before k.session id time || is_session k.session id time && nat_lt k.index low

-- the file comes before those of the session after an index
abbrev pub is_up_to : ℕ → ℕ → ℕ → FileKey → Bool
is_up_to id time high k = is_session_before k.session id time || is_session k.session id time && nat_le k.index high

-- the number in the ranges, if they are one range of one number
abbrev pub one_of : List Range → Option ℕ
one_of [] = None
one_of (r ∷ []) = if r.low == r.high then Some r.low else None
one_of (r ∷ s ∷ more) = None

-- the group names exactly this session
abbrev pub NamesSession : Group → ℕ → ℕ → Type 0
NamesSession g id time = (one_of g.session_ids ≡ Some id) × (one_of g.session_times ≡ Some time)

-- the part of the files has all files that a group which names the session asks for by the range
abbrev pub HasAllOf : List FileKey → List FileKey → ℕ → ℕ → Range → Type 0
HasAllOf part keys id time r = (g : Group) → NamesSession g id time → filter (is_asked g r) part ≡ filter (is_asked g r) keys
