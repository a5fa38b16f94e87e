-- The room that a joiner has for data. Attributes and digests are held beside it.
use Rattle.std.specs.Prelude.{ℕ, ◌-◌, ◌==◌, ◌||◌, nat_lt, sum_by, Bool, false, true, if◌then◌else◌, List, length, Option, Some, None, nat_abs}
use Rattle.br_model.specs.Meaning.{Hit}
use Rattle.br_join.specs.declared.room.Room.{Room}

-- whether what a stream has is held in any case: stream 1 has attributes, and 3 a digest
abbrev pub is_always_held : ℕ → Bool
is_always_held stream = stream == 1 || stream == 3

-- the number of bytes of data in a hit
abbrev pub data_len : Hit → ℕ
data_len h = if is_always_held (nat_abs h.fragment.stream) then 0 else length h.fragment.bytes

-- the number of bytes of data in hits
abbrev pub data_in : List Hit → ℕ
data_in hits = sum_by data_len hits

-- room for this many bytes of data, or for all data if there is no bound
abbrev pub room_of : Option ℕ → Room
room_of bound = record { bound = bound; left = bound; holds_all = true }

-- the room if this many bytes are left
abbrev pub with_left : Room → ℕ → Room
with_left r left = record { bound = r.bound; left = Some left; holds_all = r.holds_all }

-- the room after data came for which there was too little
abbrev pub overfull : Room → Room
overfull r = record { bound = r.bound; left = Some 0; holds_all = false }

-- the room after data of some bytes came, if `left` bytes were left, or there was no bound
abbrev pub filled_by : Option ℕ → Room → ℕ → Room
filled_by None r bytes = r
filled_by (Some left) r bytes = if nat_lt left bytes then overfull r else with_left r (left - bytes)

-- The room after data of some bytes came. If too few were left, not all data are held from then on,
-- and none are left.
abbrev pub filled : Room → ℕ → Room
filled r bytes = filled_by r.left r bytes
