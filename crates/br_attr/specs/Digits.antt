-- Numbers that digits spell, if they fit.
use Rattle.std.specs.Prelude.{ℕ, zero, suc, [], ◌∷◌, ◌+◌, ◌-◌, ◌*◌, ◌^◌, Bool, ◌&&◌, nat_lt, nat_le, ◌==◌, if◌then◌else◌, List, Option, Some, None, is_some, unwrap_or, fold, Result, Ok, Err, ℤ}
use Rattle.std.specs.List.{list_all}
use Rattle.std.specs.Int.{is_in_range}
use Rattle.std.specs.Char.{is_ascii_digit}
use Rattle.br_model.specs.Number.{digit64, digit_at, are_digits64, magnitude, fits64, with_sign}

-- the value of a base 64 digit, by the range that contains it
abbrev pub digit_in_range : ℕ → Option ℕ
digit_in_range c =
    if is_in_range 65 90 c then Some (c - 65) else (if is_in_range 97 122 c then Some (c - 97 + 26) else (if is_in_range 48 57 c then Some (c - 48 + 52)
    else (if c == 43 then Some 62 else (if c == 47 then Some 63 else None))))

-- the number that a text spells after the number n, if all its bytes are digits and the number is
-- below the limit
unfoldable pub spelled_from : (ℕ → Bool) → (ℕ → ℕ → ℕ) → ℕ → ℕ → List ℕ → Option ℕ
spelled_from is_digit and_digit limit n text = if list_all is_digit text && nat_lt (fold and_digit n text) limit then Some (fold and_digit n text) else None

-- a number, and one more digit after it
abbrev pub and_digit64 : ℕ → ℕ → ℕ
and_digit64 n c = 64 * n + unwrap_or (digit64 c) 0

abbrev pub and_decimal : ℕ → ℕ → ℕ
and_decimal n c = 10 * n + (c - 48)

-- the number that base 64 digits spell, if it fits 64 bits
abbrev pub spelled64 : List ℕ → Option ℕ
spelled64 digits = spelled_from (λ c. is_some (digit64 c)) and_digit64 (2 ^ 64) 0 digits

-- the number that decimal digits spell, if it fits 32 bits
abbrev pub spelled10 : List ℕ → Option ℕ
spelled10 digits = spelled_from is_ascii_digit and_decimal (2 ^ 32) 0 digits

-- the integer of a sign and a magnitude, if it fits 64 bits
abbrev pub signed64 : Bool → ℕ → Option ℤ
signed64 minus n = if fits64 minus n then Some (with_sign minus n) else None

-- the integer that digits after a sign spell, if it fits 64 bits
abbrev pub integer64 : Bool → List ℕ → Option ℤ
integer64 minus digits = if are_digits64 digits && fits64 minus (magnitude digits) then Some (with_sign minus (magnitude digits)) else None

-- a number from 1 to 2 ^ 31 - 1, or 20
abbrev pub positive_or_fault : Option ℕ → Result ℕ ℕ
positive_or_fault None = Err 20
positive_or_fault (Some n) = if nat_le 1 n && nat_lt n (2 ^ 31) then Ok n else Err 20

-- the last k digits of a number
abbrev pub last_digits : ℕ → ℕ → List ℕ
last_digits n zero = []
last_digits n (suc k) = digit_at n k ∷ last_digits n k
