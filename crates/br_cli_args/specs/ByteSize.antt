-- Sizes in bytes, as words give them.
use Rattle.std.specs.Prelude.{if◌then◌else◌, ℕ, Bool, true, false, ◌||◌, ◌==◌, ◌-◌, ◌*◌, ◌^◌, nat_lt, List, bytes_eq, codes, drop, length, take, slice_get, Option, Some, None, option_and_then}
use Rattle.br_types.specs.DecimalField.{number_spelled}

-- the bytes of a unit by its letter: K, M, G or T, each 1,024 times the previous one, or the small
-- letter
abbrev pub unit_of : ℕ → Option ℕ
unit_of letter =
    if letter == 75 || letter == 107 then Some (2 ^ 10)
    else if letter == 77 || letter == 109 then Some (2 ^ 20)
    else if letter == 71 || letter == 103 then Some (2 ^ 30)
    else if letter == 84 || letter == 116 then Some (2 ^ 40)
    else None

-- the bytes of this number of units, if they are fewer than 2^64
abbrev pub in_units : ℕ → List ℕ → Option ℕ
in_units unit digits =
    option_and_then (λ number. if nat_lt (number * unit) (2 ^ 64) then Some (number * unit) else None) (number_spelled (2 ^ 64 - 1) digits)

-- the size of a text by its unit, which it may have to have at its end
abbrev pub sized_by : Option ℕ → Bool → List ℕ → Option ℕ
sized_by None true text = None
sized_by None false text = in_units 1 text
sized_by (Some unit) needs_unit text = in_units unit (take (length text - 1) text)

-- the size of a text with this last byte
abbrev pub sized : Bool → List ℕ → ℕ → Option ℕ
sized needs_unit text last = sized_by (unit_of last) needs_unit text

-- the size of a text: a number in decimal, perhaps or always with a unit
unfoldable pub last_sized : Bool → List ℕ → Option ℕ
last_sized needs_unit text = option_and_then (sized needs_unit text) (slice_get text (length text - 1))

-- the size in a text: after a unit iB may follow
unfoldable pub size_spelled : List ℕ → Option ℕ
size_spelled text =
    if bytes_eq (drop (length text - 2) text) (codes "iB") then last_sized true (take (length text - 2) text)
    else last_sized false text
