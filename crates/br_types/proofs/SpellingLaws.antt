-- Texts that spell bytes, pair by pair, and the digits that the kit's `hex` writes and reads.
use Rattle.std.proofs.Common.{◌≡◌, ◌⊎◌, inl, inr, ℕ, zero, suc, ◌+◌, ◌*◌, ◌/◌, ◌%◌, ◌<◌, ◌==◌, ◌&&◌, ◌||◌, Bool, true, false, cond, List, [], ◌∷◌, length, slice_index, Option, Some, None, Result, Ok, Err, refl, sym, ap, ◌∙◌, arith}
use Rattle.std.specs.Char.{is_ascii_uppercase}
use Rattle.std.specs.List.{list_any}
use Rattle.std.proofs.lemmas.Bool.{and_parts, cases_lt, eqb-true}
use Rattle.std.proofs.lemmas.Bool.Decides.{nat_tests}
use Rattle.hex.specs.Hex.{decode_of, decode_pairs, decode_sized, digit_or_error, encode_lower, encode_with, hex_digit_value, lower_digits, ◌>>=◌}
use Rattle.hex.specs.declared.error.FromHexError.{FromHexError}
use Rattle.hex.specs.declared.error.FromHexError.TheVariants.{InvalidHexCharacter, InvalidStringLength, OddLength, OutOfMemory}
use Rattle.hex.proofs.Pairs.{decode_sized-pairs}
use Rattle.br_model.specs.Answer.{IsRefusal, some_or}
use Rattle.br_model.specs.Text.{hex_digit}
use Rattle.br_types.specs.Escape.{byte_of, digit_value, in_front}
use Rattle.br_types.specs.DecimalSpelling.{pairs_read}
use Rattle.br_types.specs.LineFault.{line_cause, of_hex_fault}

-- ---- digits that are written

-- the kit's table has the model's digit
abbrev is_same : ℕ → Bool
is_same d = slice_index lower_digits d == hex_digit d

abbrev all_same : ℕ → Bool
all_same zero = true
all_same (suc n) = is_same n && all_same n

same_at : (n k : ℕ) → all_same n ≡ true → k < n → is_same k ≡ true
same_at zero k all less = absurd (omega arith)
same_at (suc n) k all less =
    let parts = and_parts (is_same n) (all_same n) all in
    elim (cases_lt k n) [
      | inl below ↦ same_at n k parts.1 below
      | inr top ↦
          let e : k ≡ n = omega arith in
          rw e parts.0
    ]

digit_is : (d : ℕ) → d < 16 → slice_index lower_digits d ≡ hex_digit d
digit_is d less = eqb-true (slice_index lower_digits d) (hex_digit d) (same_at 16 d refl less)

-- the first digit of a byte
pub high_is : (b : ℕ) (digits : List ℕ) → b < 256 → digits ≡ encode_lower (b ∷ []) → slice_index digits 0 ≡ hex_digit (b / 16)
unfolding encode_with
high_is b digits fits are = ap (λ (l : List ℕ). slice_index l 0) are ∙ digit_is (b / 16) (omega (arith, fits))

-- the second digit of a byte
pub low_is : (b : ℕ) (digits : List ℕ) → digits ≡ encode_lower (b ∷ []) → slice_index digits 1 ≡ hex_digit (b % 16)
unfolding encode_with
low_is b digits are = ap (λ (l : List ℕ). slice_index l 1) are ∙ digit_is (b % 16) (omega arith)

-- ---- digits that are read

-- what was read, if it was
abbrev bytes_in : Result (List ℕ) FromHexError → Option (List ℕ)
bytes_in (Ok bytes) = Some bytes
bytes_in (Err e) = None

-- a digit that is no capital letter has the same value for both
same_value : (c : ℕ) → is_ascii_uppercase c ≡ false → hex_digit_value c ≡ digit_value c
unfolding digit_value
same_value c small = grind (arith, nat_tests, small)

-- a capital letter is no digit
no_value : (c : ℕ) → is_ascii_uppercase c ≡ true → digit_value c ≡ None
unfolding digit_value
no_value c capital = grind (arith, nat_tests, capital)

both_off : (a b : Bool) → (a || b) ≡ false → (a ≡ false) × (b ≡ false)
both_off true b h = absurd cc
both_off false b h = (refl, h)

-- what two digits and the bytes after them come to
two_digits : (i high low : ℕ) (a b : Option ℕ) (rest : Result (List ℕ) FromHexError)
    → bytes_in ((digit_or_error high i a >>= (λ h. digit_or_error low (i + 1) b >>= (λ l. Ok (h * 16 + l)))) >>= (λ byte. rest >>= (λ bytes. Ok (byte ∷ bytes))))
    ≡ in_front (byte_of a b) (bytes_in rest)
unfolding in_front byte_of
two_digits i high low (Some h) (Some l) (Ok bytes) =
    let is : h * 16 + l ≡ 16 * h + l = omega arith in
    ap (λ (n : ℕ). Some (n ∷ bytes)) is
two_digits i high low (Some h) (Some l) (Err e) = refl
two_digits i high low (Some h) None (Ok bytes) = refl
two_digits i high low (Some h) None (Err e) = refl
two_digits i high low None (Some l) (Ok bytes) = refl
two_digits i high low None (Some l) (Err e) = refl
two_digits i high low None None (Ok bytes) = refl
two_digits i high low None None (Err e) = refl

-- pairs without a capital letter are read alike
pairs_are : (i : ℕ) (text : List ℕ) → list_any is_ascii_uppercase text ≡ false → bytes_in (decode_pairs i text) ≡ pairs_read text
unfolding decode_pairs pairs_read
pairs_are i [] small = refl
pairs_are i (last ∷ []) small = refl
pairs_are i (high ∷ low ∷ text) small =
    let first = both_off (is_ascii_uppercase high) (list_any is_ascii_uppercase (low ∷ text)) small in
    let second = both_off (is_ascii_uppercase low) (list_any is_ascii_uppercase text) first.1 in
    two_digits i high low (hex_digit_value high) (hex_digit_value low) (decode_pairs (i + 2) text)
    ∙ ap (λ (o : Option ℕ). in_front (byte_of o (hex_digit_value low)) (bytes_in (decode_pairs (i + 2) text))) (same_value high first.0)
    ∙ ap (λ (o : Option ℕ). in_front (byte_of (digit_value high) o) (bytes_in (decode_pairs (i + 2) text))) (same_value low second.0)
    ∙ ap (in_front (byte_of (digit_value high) (digit_value low))) (pairs_are (i + 2) text second.1)

nothing_after : (o : Option ℕ) → in_front o None ≡ None
unfolding in_front
nothing_after (Some byte) = refl
nothing_after None = refl

-- a text of odd length spells nothing
odd_is_none : (text : List ℕ) → length text % 2 ≡ 1 → pairs_read text ≡ None
unfolding pairs_read
odd_is_none [] odd = absurd (omega (arith, odd))
odd_is_none (last ∷ []) odd = refl
odd_is_none (high ∷ low ∷ text) odd =
    ap (in_front (byte_of (digit_value high) (digit_value low))) (odd_is_none text (omega (arith, odd)))
    ∙ nothing_after (byte_of (digit_value high) (digit_value low))

by_length : (text : List ℕ) (odd : Bool) → (length text % 2 == 1) ≡ odd → list_any is_ascii_uppercase text ≡ false
    → bytes_in (cond odd (Err OddLength) (decode_pairs 0 text)) ≡ pairs_read text
by_length text true is small = sym (odd_is_none text (eqb-true (length text % 2) 1 is))
by_length text false is small = pairs_are 0 text small

-- a text without a capital letter is read alike
decoded_is : (text : List ℕ) → list_any is_ascii_uppercase text ≡ false → bytes_in (decode_of text) ≡ pairs_read text
decoded_is text small = by_length text (length text % 2 == 1) refl small

-- the bytes that were read
pub spelled : (text bytes : List ℕ) → list_any is_ascii_uppercase text ≡ false → decode_of text ≡ Ok bytes → pairs_read text ≡ Some bytes
spelled text bytes small is = sym (decoded_is text small) ∙ ap bytes_in is

not_spelled : (text : List ℕ) (e : FromHexError) → list_any is_ascii_uppercase text ≡ false → decode_of text ≡ Err e → pairs_read text ≡ None
not_spelled text e small is = sym (decoded_is text small) ∙ ap bytes_in is

-- what was refused, unless memory ran out
pub refused_digits : (text : List ℕ) (e : FromHexError) → list_any is_ascii_uppercase text ≡ false → (e ≡ OutOfMemory) ⊎ (decode_of text ≡ Err e)
    → IsRefusal (line_cause (of_hex_fault e)) (some_or (pairs_read text) tt)
refused_digits text OutOfMemory small why = tt
refused_digits text OddLength small (inl out) = absurd cc
refused_digits text OddLength small (inr is) = ap (λ o. some_or o tt) (not_spelled text OddLength small is)
refused_digits text InvalidStringLength small (inl out) = absurd cc
refused_digits text InvalidStringLength small (inr is) = ap (λ o. some_or o tt) (not_spelled text InvalidStringLength small is)
refused_digits text (InvalidHexCharacter c i) small (inl out) = absurd cc
refused_digits text (InvalidHexCharacter c i) small (inr is) = ap (λ o. some_or o tt) (not_spelled text (InvalidHexCharacter c i) small is)

-- ---- capital letters

nothing_second : (o : Option ℕ) (bytes : Option (List ℕ)) → in_front (byte_of o None) bytes ≡ None
unfolding in_front byte_of
nothing_second (Some high) bytes = refl
nothing_second None bytes = refl

by_capital : (high low : ℕ) (text : List ℕ) (a b : Bool) → is_ascii_uppercase high ≡ a → is_ascii_uppercase low ≡ b
    → (a || (b || list_any is_ascii_uppercase text)) ≡ true → (list_any is_ascii_uppercase text ≡ true → pairs_read text ≡ None)
    → in_front (byte_of (digit_value high) (digit_value low)) (pairs_read text) ≡ None
unfolding in_front byte_of
by_capital high low text true b first second some rest = ap (λ (o : Option ℕ). in_front (byte_of o (digit_value low)) (pairs_read text)) (no_value high first)
by_capital high low text false true first second some rest =
    ap (λ (o : Option ℕ). in_front (byte_of (digit_value high) o) (pairs_read text)) (no_value low second)
    ∙ nothing_second (digit_value high) (pairs_read text)
by_capital high low text false false first second some rest =
    ap (in_front (byte_of (digit_value high) (digit_value low))) (rest some) ∙ nothing_after (byte_of (digit_value high) (digit_value low))

-- a text with a capital letter spells nothing
pub capital_spells_nothing : (text : List ℕ) → list_any is_ascii_uppercase text ≡ true → pairs_read text ≡ None
unfolding pairs_read
capital_spells_nothing [] some = absurd cc
capital_spells_nothing (last ∷ []) some = refl
capital_spells_nothing (high ∷ low ∷ text) some =
    by_capital high low text (is_ascii_uppercase high) (is_ascii_uppercase low) refl refl some (λ h. capital_spells_nothing text h)

-- ---- one byte

-- the first byte, if there are bytes
abbrev first_in : Option (List ℕ) → Option ℕ
first_in (Some bytes) = Some (slice_index bytes 0)
first_in None = None

front_is : (o : Option ℕ) (bytes : Option (List ℕ)) → bytes ≡ in_front o (Some []) → first_in bytes ≡ o
unfolding in_front
front_is (Some byte) bytes is = ap first_in is
front_is None bytes is = ap first_in is

pair_decoded : (high low : ℕ) (r : Result (List ℕ) FromHexError) → list_any is_ascii_uppercase (high ∷ low ∷ []) ≡ false
    → r ≡ decode_sized (high ∷ low ∷ []) 1 → first_in (bytes_in r) ≡ byte_of (digit_value high) (digit_value low)
unfolding pairs_read
pair_decoded high low r small is =
    front_is (byte_of (digit_value high) (digit_value low)) (bytes_in r)
    (ap bytes_in (is ∙ decode_sized-pairs (high ∷ low ∷ []) 1 refl refl) ∙ pairs_are 0 (high ∷ low ∷ []) small)

-- the byte that was read
pub byte_read : (high low : ℕ) (byte : List ℕ) → list_any is_ascii_uppercase (high ∷ low ∷ []) ≡ false → Ok byte ≡ decode_sized (high ∷ low ∷ []) 1
    → Some (slice_index byte 0) ≡ byte_of (digit_value high) (digit_value low)
byte_read high low byte small is = pair_decoded high low (Ok byte) small is

-- two letters that were refused
pub byte_refused : (high low : ℕ) (e : FromHexError) → list_any is_ascii_uppercase (high ∷ low ∷ []) ≡ false → Err e ≡ decode_sized (high ∷ low ∷ []) 1
    → None ≡ byte_of (digit_value high) (digit_value low)
byte_refused high low e small is = pair_decoded high low (Err e) small is

-- two letters of which one is a capital
pub capital_byte : (high low : ℕ) → list_any is_ascii_uppercase (high ∷ low ∷ []) ≡ true → None ≡ byte_of (digit_value high) (digit_value low)
unfolding pairs_read
capital_byte high low some = front_is (byte_of (digit_value high) (digit_value low)) None (sym (capital_spells_nothing (high ∷ low ∷ []) some))
