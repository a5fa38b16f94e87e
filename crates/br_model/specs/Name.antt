-- Names of volumes, clients and file sets, paths, and the keys of sessions and files.
use Rattle.std.specs.Prelude.{ℕ, ◌-◌, Bool, false, not, ◌&&◌, ◌||◌, nat_le, ◌==◌, List, [], ◌∷◌, length, drop, slice_index, bytes_eq, if◌then◌else◌, Result, Ok, Err}
use Rattle.std.specs.List.{list_all, slice_split}
use Rattle.std.specs.Int.{is_in_range}
use Rattle.std.specs.Ordering.{nat_cmp, ordering_then}
use Rattle.std.specs.declared.cmp.Ordering.{Ordering}
use Rattle.br_model.specs.Text.{is_empty}

-- the run of a backup that wrote a record
pub record SessionKey : Type 0 where
  pub id : ℕ
  pub time : ℕ

-- a file of a session; its rank orders the outcomes of a restore
pub record FileKey : Type 0 where
  pub session : SessionKey
  pub index : ℕ

-- files are ranked by the session's number, then by its time, then by index
abbrev pub key_rank : FileKey → List ℕ
key_rank k = k.session.id ∷ k.session.time ∷ k.index ∷ []

-- sessions are ordered by number, then by time
abbrev pub session_cmp : SessionKey → SessionKey → Ordering
session_cmp a b = ordering_then (nat_cmp a.id b.id) (nat_cmp a.time b.time)

-- files are ordered by session, then by index
abbrev pub key_cmp : FileKey → FileKey → Ordering
key_cmp a b = ordering_then (session_cmp a.session b.session) (nat_cmp a.index b.index)

-- whether number and time of two sessions are equal
abbrev pub same_session : SessionKey → SessionKey → Bool
same_session a b = a.id == b.id && a.time == b.time

-- whether session and index of two files are equal
abbrev pub same_key : FileKey → FileKey → Bool
same_key a b = same_session a.session b.session && a.index == b.index

-- an ASCII letter
abbrev pub is_letter : ℕ → Bool
is_letter c = is_in_range 65 90 c || is_in_range 97 122 c

-- a letter, a digit, or one of - _ . : and the space
abbrev pub is_name_byte : ℕ → Bool
is_name_byte c = is_letter c || is_in_range 48 57 c || c == 45 || c == 95 || c == 46 || c == 58 || c == 32

-- a name has 1 to 127 such bytes
unfoldable pub is_name : List ℕ → Bool
is_name bytes = nat_le 1 (length bytes) && nat_le (length bytes) 127 && list_all is_name_byte bytes

-- the name of one dot
abbrev pub dot : List ℕ
dot = 46 ∷ []

-- the name of two dots
abbrev pub dot_dot : List ℕ
dot_dot = 46 ∷ 46 ∷ []

-- a volume's name is any name but . and ..
unfoldable pub is_volume_name : List ℕ → Bool
is_volume_name bytes = is_name bytes && not (bytes_eq bytes dot) && not (bytes_eq bytes dot_dot)

-- a slash is 47
abbrev pub is_slash : ℕ → Bool
is_slash c = c == 47

-- a component of a path is not empty, and is neither . nor ..
abbrev pub is_component : List ℕ → Bool
is_component c = not (is_empty c) && not (bytes_eq c dot) && not (bytes_eq c dot_dot)

-- the components of a path; if the last is empty, the path is that of a directory
unfoldable pub are_components : List (List ℕ) → Bool
are_components [] = false
are_components (c ∷ []) = is_empty c || is_component c
are_components (c ∷ d ∷ more) = is_component c && are_components (d ∷ more)

-- a path begins with a slash, has at most 4096 bytes and no NUL, and components between its slashes
unfoldable pub is_path : List ℕ → Bool
is_path bytes =
    slice_index bytes 0 == 47 && nat_le (length bytes) 4096 && list_all (λ c. not (c == 0)) bytes
    && are_components (slice_split is_slash (drop 1 bytes))

-- the name if the bytes are one, else 2; for a path, else 3
unfoldable pub checked_name : List ℕ → Result (List ℕ) ℕ
checked_name bytes = if is_name bytes then Ok bytes else Err 2

unfoldable pub checked_volume_name : List ℕ → Result (List ℕ) ℕ
checked_volume_name bytes = if is_volume_name bytes then Ok bytes else Err 2

unfoldable pub checked_path : List ℕ → Result (List ℕ) ℕ
checked_path bytes = if is_path bytes then Ok bytes else Err 3

-- a path of a directory ends in a slash
abbrev pub is_directory : List ℕ → Bool
is_directory path = slice_index path (length path - 1) == 47
