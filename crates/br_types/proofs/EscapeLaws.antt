-- Escaped names read back, and a text read byte by byte.
use Rattle.std.proofs.Common.{◌≡◌, ℕ, suc, ◌+◌, ◌-◌, ◌<◌, ◌≤◌, ◌*◌, ◌/◌, ◌%◌, Bool, true, false, not, ◌&&◌, cond, leb, ltb, eqb, ◌++◌, List, [], ◌∷◌, Option, Some, None, refl, ap, sym, ◌∙◌, append_assoc, arith, inl, inr}
use Rattle.std.proofs.lemmas.Bool.{and_parts, cases_lt, lt-ltb, le-ltb, le-leb, lt-leb, not-true}
use Rattle.std.proofs.lemmas.Bool.Decides.{nat_tests}
use Rattle.br_model.specs.Text.{escaped, hex_digit, hexadecimal}
use Rattle.br_types.specs.Escape.{byte_of, digit_value, in_front, unescaped, EscapedReadsBack}

-- ---- a text read byte by byte

-- bytes before others, if these are there
abbrev pub behind : List ℕ → Option (List ℕ) → Option (List ℕ)
behind front None = None
behind front (Some bytes) = Some (front ++ bytes)

behind_more : (front : List ℕ) (byte : ℕ) (bytes : Option (List ℕ)) → behind front (in_front (Some byte) bytes) ≡ behind (front ++ byte ∷ []) bytes
unfolding in_front
behind_more front byte None = refl
behind_more front byte (Some bytes) = ap Some (sym (append_assoc front (byte ∷ []) bytes))

-- a byte more is read
pub read_more : (text left rest bytes : List ℕ) (byte : ℕ) → unescaped text ≡ behind bytes (unescaped left) → unescaped left ≡ in_front (Some byte) (unescaped rest)
    → unescaped text ≡ behind (bytes ++ byte ∷ []) (unescaped rest)
read_more text left rest bytes byte so_far first = so_far ∙ ap (behind bytes) first ∙ behind_more bytes byte (unescaped rest)

-- nothing is left
pub read_all : (text left bytes : List ℕ) → unescaped text ≡ behind bytes (unescaped left) → left ≡ [] → unescaped text ≡ Some bytes
unfolding unescaped
read_all text left bytes so_far none = so_far ∙ ap (λ (l : List ℕ). behind bytes (unescaped l)) none ∙ ap Some (append_nil bytes)
  where
    append_nil : (xs : List ℕ) → xs ++ [] ≡ xs
    append_nil [] = refl
    append_nil (x ∷ xs) = ap (λ ys. x ∷ ys) (append_nil xs)

-- ---- one byte

small_digit : (d : ℕ) → d < 10 → digit_value (48 + d) ≡ Some d
unfolding digit_value
small_digit d less =
    let from : leb 48 (48 + d) ≡ true = le-leb 48 (48 + d) (omega arith) in
    let to : leb (48 + d) 57 ≡ true = le-leb (48 + d) 57 (omega arith) in
    let is : 48 + d - 48 ≡ d = omega arith in
    rw from (rw to (ap Some is))

great_digit : (d : ℕ) → 10 ≤ d → d < 16 → digit_value (87 + d) ≡ Some d
unfolding digit_value
great_digit d more less =
    let past : leb (87 + d) 57 ≡ false = lt-leb (87 + d) 57 (omega arith) in
    let from : leb 97 (87 + d) ≡ true = le-leb 97 (87 + d) (omega arith) in
    let to : leb (87 + d) 102 ≡ true = le-leb (87 + d) 102 (omega arith) in
    let is : 87 + d - 87 ≡ d = omega arith in grind (arith, nat_tests)

digit_reads : (d : ℕ) → d < 16 → digit_value (hex_digit d) ≡ Some d
digit_reads d less =
    elim (cases_lt d 10) [
      | inl below ↦ let test : ltb d 10 ≡ true = lt-ltb d 10 below in rw test (small_digit d below)
      | inr above ↦ let test : ltb d 10 ≡ false = le-ltb d 10 above in rw test (great_digit d above less)
    ]

-- what is escaped is the byte again
escape_reads : (b : ℕ) (text : List ℕ) → b < 256 → unescaped (92 ∷ 120 ∷ hex_digit (b / 16) ∷ hex_digit (b % 16) ∷ text) ≡ in_front (Some b) (unescaped text)
unfolding unescaped byte_of
escape_reads b text less =
    let high : digit_value (hex_digit (b / 16)) ≡ Some (b / 16) = digit_reads (b / 16) (omega arith) in
    let low : digit_value (hex_digit (b % 16)) ≡ Some (b % 16) = digit_reads (b % 16) (omega arith) in
    let is : 16 * (b / 16) + b % 16 ≡ b = omega arith in
    ap (λ h. in_front (byte_of h (digit_value (hex_digit (b % 16)))) (unescaped text)) high ∙ ap (λ l. in_front (byte_of (Some (b / 16)) l) (unescaped text)) low ∙ ap (λ c. in_front (Some c) (unescaped text)) is

-- every byte but a backslash is itself
plain_reads : (b : ℕ) (text : List ℕ) → eqb b 92 ≡ false → unescaped (b ∷ text) ≡ in_front (Some b) (unescaped text)
unfolding unescaped
plain_reads b [] other = rw other refl
plain_reads b (x ∷ []) other = rw other refl
plain_reads b (x ∷ high ∷ []) other = rw other refl
plain_reads b (x ∷ high ∷ low ∷ text) other = rw other refl

byte_reads : (b : ℕ) (text : List ℕ) (plain : Bool) → leb 33 b && leb b 126 && not (eqb b 92) ≡ plain → b < 256
    → unescaped (cond plain (b ∷ []) (92 ∷ 120 ∷ hexadecimal (b ∷ [])) ++ text) ≡ in_front (Some b) (unescaped text)
unfolding hexadecimal
byte_reads b text true test less = plain_reads b text (not-true (eqb b 92) (and_parts (leb 33 b && leb b 126) (not (eqb b 92)) test).1)
byte_reads b text false test less = escape_reads b text less

-- ---- a whole name

pub escaped_reads_back_lem : EscapedReadsBack
unfolding escaped unescaped in_front
escaped_reads_back_lem [] fits = refl
escaped_reads_back_lem (b ∷ name) fits =
    byte_reads b (escaped name) (leb 33 b && leb b 126 && not (eqb b 92)) refl (fits 0)
    ∙ ap (in_front (Some b)) (escaped_reads_back_lem name (λ i. fits (suc i)))
