-- Escaped names read back.
use Rattle.std.specs.Prelude.{◌≡◌, ℕ, ◌+◌, ◌-◌, ◌*◌, not, ◌&&◌, nat_le, ◌==◌, if◌then◌else◌, List, [], ◌∷◌, Option, Some, None}
use Rattle.br_model.specs.Text.{AreBytes, escaped}
use Rattle.br_types.specs.declared.fault.EscapeFault.{EscapeFault}
use Rattle.br_types.specs.declared.fault.EscapeFault.TheVariants.{Memory, BadEscape}

-- the value of a hexadecimal digit in lower case
unfoldable pub digit_value : ℕ → Option ℕ
digit_value c =
    if nat_le 48 c && nat_le c 57 then Some (c - 48)
    else if nat_le 97 c && nat_le c 102 then Some (c - 87)
    else None

-- the byte of two digits
unfoldable pub byte_of : Option ℕ → Option ℕ → Option ℕ
byte_of (Some high) (Some low) = Some (16 * high + low)
byte_of _ _ = None

-- a byte before others, if all are there
unfoldable pub in_front : Option ℕ → Option (List ℕ) → Option (List ℕ)
in_front (Some byte) (Some bytes) = Some (byte ∷ bytes)
in_front _ _ = None

-- the bytes that an escaped text means: \x and two digits are one byte, any other \ is a fault, and
-- every other byte is itself
unfoldable pub unescaped : List ℕ → Option (List ℕ)
unescaped [] = Some []
unescaped (c ∷ x ∷ high ∷ low ∷ text) =
    if not (c == 92) then in_front (Some c) (unescaped (x ∷ high ∷ low ∷ text))
    else if x == 120 then in_front (byte_of (digit_value high) (digit_value low)) (unescaped text)
    else None
unescaped (c ∷ text) = if c == 92 then None else in_front (Some c) (unescaped text)

-- escaped bytes are read back
abbrev pub EscapedReadsBack : Type 0
EscapedReadsBack = (name : List ℕ) → AreBytes name → unescaped (escaped name) ≡ Some name

-- the refusal that the model decides: none if memory ran out
abbrev pub escape_cause : EscapeFault → Option (Unit {0})
escape_cause Memory = None
escape_cause BadEscape = Some tt
