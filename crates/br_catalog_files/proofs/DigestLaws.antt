-- A text of 32 lower case digits is read as a digest, and no other but the empty one.
use Rattle.std.proofs.Common.{◌≡◌, inl, inr, ℕ, zero, suc, ◌+◌, ◌*◌, ◌/◌, ◌%◌, ◌<◌, ◌==◌, ◌&&◌, ◌||◌, not, Bool, true, false, List, [], ◌∷◌, length, slice_index, Option, Some, None, unwrap_or, Result, Ok, Err, is_ok, bytes_eq, nat_le, refl, sym, ap, subst, ◌∙◌, arith}
use Rattle.std.specs.List.{list_all}
use Rattle.std.proofs.lemmas.Bool.{and_parts, cases_lt, eqb-true}
use Rattle.std.proofs.lemmas.Slice.Eq.{bytes_eq-Decides}
use Rattle.hex.specs.Hex.{IsBytes, decode_pairs, decode_sized, encode_lower, encode_with, hex_digit_value, lower_digits, pair_value}
use Rattle.hex.specs.declared.error.FromHexError.{FromHexError}
use Rattle.hex.proofs.HexLemmas.{decode_pairs-ok}
use Rattle.hex.proofs.Pairs.{cons_byte, decode_pairs-ok_pair, decode_sized-pairs}
use Rattle.br_model.specs.Text.{is_empty}
use Rattle.br_catalog_rows.specs.Decode.{digest, if_written}
use Rattle.br_catalog_files.specs.Digest.{is_digest_digit, is_digest_text}

-- ---- one digit

abbrev value : ℕ → ℕ
value c = unwrap_or (hex_digit_value c) 99

-- the digit is that of its value, if it is one of a digest
abbrev is_fine : ℕ → Bool
is_fine c = not (is_digest_digit c) || (slice_index lower_digits (value c) == c && nat_le (value c) 15)

abbrev all_fine : ℕ → Bool
all_fine zero = true
all_fine (suc n) = is_fine n && all_fine n

fine_at : (n k : ℕ) → all_fine n ≡ true → k < n → is_fine k ≡ true
fine_at zero k all lt = absurd (omega arith)
fine_at (suc n) k all lt =
    let parts = and_parts (is_fine n) (all_fine n) all in
    elim (cases_lt k n) [
      | inl below ↦ fine_at n k parts.1 below
      | inr top ↦
          let e : k ≡ n = omega arith in
          rw e parts.0
    ]

-- the digits of a table are those of a digest
abbrev all_digits : ℕ → Bool
all_digits zero = true
all_digits (suc n) = is_digest_digit (slice_index lower_digits n) && all_digits n

digit_at : (n k : ℕ) → all_digits n ≡ true → k < n → is_digest_digit (slice_index lower_digits k) ≡ true
digit_at zero k all lt = absurd (omega arith)
digit_at (suc n) k all lt =
    let parts = and_parts (is_digest_digit (slice_index lower_digits n)) (all_digits n) all in
    elim (cases_lt k n) [
      | inl below ↦ digit_at n k parts.1 below
      | inr top ↦
          let e : k ≡ n = omega arith in
          rw e parts.0
    ]

some_value : (o : Option ℕ) → unwrap_or o 99 < 16 → o ≡ Some (unwrap_or o 99)
some_value (Some v) lt = refl
some_value None lt = absurd (omega arith)

implied : (a b : Bool) → (not a || b) ≡ true → a ≡ true → b ≡ true
implied true b h is = h
implied false b h is = absurd cc

-- a digit of a digest is that which the table has for its value
digit_value : (c : ℕ) → is_digest_digit c ≡ true → (hex_digit_value c ≡ Some (value c)) × (slice_index lower_digits (value c) ≡ c) × (value c < 16)
digit_value c is =
    let low : c < 103 = grind (arith, is) in
    let both = and_parts _ _ (implied (is_digest_digit c) _ (fine_at 103 c refl low) is) in
    let small : value c < 16 = grind (arith, both.1) in
    (some_value (hex_digit_value c) small, eqb-true _ _ both.0, small)

-- ---- pairs of digits

pairs_read : (i : ℕ) (s : List ℕ) → length s % 2 ≡ 0 → list_all is_digest_digit s ≡ true → (bytes : List ℕ) × (decode_pairs i s ≡ Ok bytes) × (encode_lower bytes ≡ s)
unfolding decode_pairs encode_with
pairs_read i [] even all = ([], refl, refl)
pairs_read i (a ∷ []) even all = absurd (omega (arith, even))
pairs_read i (a ∷ b ∷ rest) even all =
    let first = and_parts (is_digest_digit a) (is_digest_digit b && list_all is_digest_digit rest) all in
    let second = and_parts (is_digest_digit b) (list_all is_digest_digit rest) first.1 in
    let ha = digit_value a first.0 in
    let hb = digit_value b second.0 in
    let more = pairs_read (i + 2) rest (omega (arith, even)) second.1 in
    let byte = value a * 16 + value b in
    let pair : pair_value a b i ≡ Ok byte = rw (ha.0, hb.0) refl in
    let high : byte / 16 ≡ value a = omega (arith, ha.2, hb.2) in
    let low : byte % 16 ≡ value b = omega (arith, ha.2, hb.2) in
    (byte ∷ more.0, decode_pairs-ok_pair i a b _ rest pair ∙ ap (cons_byte byte) more.1, rw (high, low, ha.1, hb.1, more.2) refl)

-- what is written of bytes is digits
digits_written : (bytes : List ℕ) → IsBytes bytes → list_all is_digest_digit (encode_lower bytes) ≡ true
unfolding encode_with
digits_written [] are = refl
digits_written (b ∷ rest) are =
    let fits : b < 256 = are 0 in
    let high = digit_at 16 (b / 16) refl (omega (arith, fits)) in
    let low = digit_at 16 (b % 16) refl (omega arith) in
    rw (high, low) (digits_written rest (λ k. are (suc k)))

-- ---- a digest

ok_if : (t bytes : List ℕ) (b : Bool) → bytes_eq (encode_lower bytes) t ≡ b → is_ok (if_written t (Ok bytes)) ≡ b
ok_if t bytes true is = rw is refl
ok_if t bytes false is = rw is refl

read_back : (t : List ℕ) (r : Result (List ℕ) FromHexError) → is_ok (if_written t r) ≡ true → (bytes : List ℕ) × (r ≡ Ok bytes) × (encode_lower bytes ≡ t)
read_back t (Ok bytes) h = (bytes, refl, (bytes_eq-Decides (encode_lower bytes) t).0 (sym (ok_if t bytes _ refl) ∙ h))
read_back t (Err e) h = absurd cc

same_bool : (a b : Bool) → (a ≡ true → b ≡ true) → (b ≡ true → a ≡ true) → a ≡ b
same_bool true b to from = sym (to refl)
same_bool false true to from = from refl
same_bool false false to from = refl

-- 32 lower case digits are those of 16 bytes
digits_read : (t : List ℕ) → is_digest_text t ≡ true → is_ok (if_written t (decode_sized t 16)) ≡ true
digits_read t is =
    let parts = and_parts (length t == 32) (list_all is_digest_digit t) is in
    let len : length t ≡ 32 = eqb-true (length t) 32 parts.0 in
    let even : length t % 2 ≡ 0 = omega (arith, len) in
    let half : length t / 2 ≡ 16 = omega (arith, len) in
    let read = pairs_read 0 t even parts.1 in
    ap (λ (r : Result (List ℕ) FromHexError). is_ok (if_written t r)) (decode_sized-pairs t 16 even half ∙ read.1)
    ∙ ok_if t read.0 true ((bytes_eq-Decides (encode_lower read.0) t).1 read.2)

-- what is written of 16 bytes is 32 lower case digits
sized : (t bytes : List ℕ) → decode_sized t 16 ≡ Ok bytes → (length t ≡ 32) × (decode_pairs 0 t ≡ Ok bytes)
sized t bytes h = grind (arith, h)

only_digits : (t : List ℕ) → is_ok (if_written t (decode_sized t 16)) ≡ true → is_digest_text t ≡ true
only_digits t h =
    let read = read_back t (decode_sized t 16) h in
    let of = sized t read.0 read.1 in
    let digits : list_all is_digest_digit t ≡ true = subst (λ (l : List ℕ). list_all is_digest_digit l ≡ true) read.2 (digits_written read.0 (decode_pairs-ok 0 t read.0 of.1).2) in
    rw (of.0, digits) refl

not_empty : (x : ℕ) (t : List ℕ) → is_empty (x ∷ t) ≡ false
not_empty x t = grind arith

-- which texts are digests
pub digest_reads : (t : List ℕ) → is_ok (digest t) ≡ (is_empty t || is_digest_text t)
unfolding digest
digest_reads [] = refl
digest_reads (x ∷ t) = rw (not_empty x t) (same_bool _ _ (only_digits (x ∷ t)) (digits_read (x ∷ t)))
