-- The session that a group names, and the places of its files.
use Rattle.std.specs.Prelude.{ℕ, ◌+◌, ◌*◌, ◌^◌, nat_lt, ◌==◌, ◌&&◌, List, [], ◌∷◌, Option, Some, None, if◌then◌else◌}
use Rattle.br_model.specs.Name.{SessionKey}
use Rattle.br_model.specs.Bootstrap.{Range, Group}

-- the number of a range of one number, if a session can have it
abbrev pub one_number : Range → Option ℕ
one_number r = if r.low == r.high && nat_lt r.low (2 ^ 32) then Some r.low else None

-- the number in the ranges, if they are one range of one number
abbrev pub number_in : List Range → Option ℕ
number_in [] = None
number_in (r ∷ []) = one_number r
number_in (r ∷ s ∷ more) = None

-- the session with a number and a time, if there are both
abbrev pub session_with : Option ℕ → Option ℕ → Option SessionKey
session_with None time = None
session_with (Some id) None = None
session_with (Some id) (Some time) = Some (record { id = id; time = time })

-- the session that a group names, if it names one and no other
abbrev pub session_of : Group → Option SessionKey
session_of g = session_with (number_in g.session_ids) (number_in g.session_times)

-- the place of a file: by the number and the time of its session, then by its index
abbrev pub place : SessionKey → ℕ → ℕ
place s index = (s.id * 2 ^ 32 + s.time) * 2 ^ 64 + index
