-- What is written of an integer of 64 bits is read as that integer.
use Rattle.std.proofs.Common.{◌≡◌, ℕ, zero, suc, ◌+◌, ◌-◌, ◌*◌, ◌/◌, ◌%◌, ◌^◌, ◌<◌, ◌≤◌, Bool, true, false, not, ◌&&◌, cond, eqb, List, [], ◌∷◌, length, map, Option, Some, None, Ok, refl, Result, Err, ◌⊎◌, sym, ap, subst, ◌∙◌, inl, inr, arith}
use Rattle.std.proofs.lemmas.Bool.{eqb-true, eqb-false, ne_eqb, cases_lt, leb-true, ltb-true, le-ltb, and_parts}
use Rattle.std.proofs.lemmas.Nat.{mod_below}
use Rattle.std.specs.Prelude.{ℤ, nat_abs, pos, negsuc, neg_ℤ, fold, slice_index, drop, is_some, unwrap_or}
use Rattle.std.specs.Int.{is_negative}
use Rattle.std.specs.List.{list_all, position_from}
use native.Mathlib.Nat.{div-div-eq-div-mul}
use native.Mathlib.Numerals.{unary_clauses}
use Rattle.br_model.proofs.AnswerLaws.{chosen, ok_is}
use Rattle.br_model.specs.Number.{unsigned_part, with_sign, NumbersAreShortest, is_64_bits, digits64, digit64, magnitude, are_digits64, has_minus, fits64, read_number, without_zeros, digit_at, write_magnitude, write_number, NumbersReadBack}

-- ---- each of the 64 digits is read as its number

abbrev is_just : Option ℕ → ℕ → Bool
is_just None n = false
is_just (Some m) n = eqb m n

just : (o : Option ℕ) (n : ℕ) → is_just o n ≡ true → o ≡ Some n
just None n e = absurd cc
just (Some m) n e = ap (λ k. Some k) (eqb-true m n e)

abbrev passes_below : (ℕ → Bool) → ℕ → Bool
passes_below p zero = true
passes_below p (suc n) = p n && passes_below p n

passes_at : (p : ℕ → Bool) (n k : ℕ) → passes_below p n ≡ true → k < n → p k ≡ true
passes_at p zero k e lt = absurd (omega arith)
passes_at p (suc n) k e lt =
    elim (cases_lt k n) [
      | inl less ↦ passes_at p n k (and_parts (p n) (passes_below p n) e).1 less
      | inr le ↦ let same : n ≡ k = omega arith in subst (λ i. p i ≡ true) same (and_parts (p n) (passes_below p n) e).0
    ]

abbrev reads_digit : ℕ → Bool
reads_digit k = is_just (digit64 (slice_index digits64 k)) k

all_digits_read : passes_below reads_digit 64 ≡ true
unfolding digit64
all_digits_read = refl

digit_is : (k : ℕ) → k < 64 → digit64 (slice_index digits64 k) ≡ Some k
digit_is k lt = just (digit64 (slice_index digits64 k)) k (passes_at reads_digit 64 k all_digits_read lt)

digit_at_is : (n k : ℕ) → digit64 (digit_at n k) ≡ Some (n / 64 ^ k % 64)
digit_at_is n k = digit_is (n / 64 ^ k % 64) (mod_below (n / 64 ^ k) 64 (omega arith))

-- ---- the digits spell the number

abbrev and_digit : ℕ → ℕ → ℕ
and_digit n c = 64 * n + unwrap_or (digit64 c) 0

abbrev places : ℕ → List ℕ
places zero = []
places (suc k) = k ∷ places k

next_place : (n k : ℕ) → n / 64 ^ suc k ≡ n / 64 ^ k / 64
next_place n k = ap (λ d. n / d) (next_power k) ∙ sym (div-div-eq-div-mul n (64 ^ k) 64)
  where
    next_power : (j : ℕ) → 64 ^ suc j ≡ 64 ^ j * 64
    next_power j = simp unary_clauses refl

spells_from : (k n : ℕ) → fold and_digit (n / 64 ^ k) (map (digit_at n) (places k)) ≡ n
spells_from zero n = omega arith
spells_from (suc k) n =
    let value : unwrap_or (digit64 (digit_at n k)) 0 ≡ n / 64 ^ k % 64 = ap (λ o. unwrap_or o 0) (digit_at_is n k) in
    let step : and_digit (n / 64 ^ suc k) (digit_at n k) ≡ n / 64 ^ k = omega (arith, value, next_place n k) in
    ap (λ m. fold and_digit m (map (digit_at n) (places k))) step ∙ spells_from k n

abbrev pub is_digit : ℕ → Bool
is_digit c = is_some (digit64 c)

are_digits : (n k : ℕ) → list_all is_digit (map (digit_at n) (places k)) ≡ true
are_digits n zero = refl
are_digits n (suc k) = rw (digit_at_is n k) (are_digits n k)

-- ---- without zeros at the front

same_number : (ds : List ℕ) → fold and_digit 0 (without_zeros ds) ≡ fold and_digit 0 ds
unfolding without_zeros digit64
same_number [] = refl
same_number (d ∷ []) = refl
same_number (d ∷ e ∷ ds) = go (eqb d 65) refl (same_number (e ∷ ds))
  where
    go : (b : Bool) → eqb d 65 ≡ b → fold and_digit 0 (without_zeros (e ∷ ds)) ≡ fold and_digit 0 (e ∷ ds)
        → fold and_digit 0 (cond b (without_zeros (e ∷ ds)) (d ∷ e ∷ ds)) ≡ fold and_digit 0 (d ∷ e ∷ ds)
    go true is same = same ∙ ap (λ c. fold and_digit 0 (c ∷ e ∷ ds)) (sym (eqb-true d 65 is))
    go false is same = refl

still_digits : (ds : List ℕ) → list_all is_digit ds ≡ true → list_all is_digit (without_zeros ds) ≡ true
unfolding without_zeros
still_digits [] h = h
still_digits (d ∷ []) h = h
still_digits (d ∷ e ∷ ds) h = go (eqb d 65) (still_digits (e ∷ ds) (and_parts (is_digit d) (list_all is_digit (e ∷ ds)) h).1)
  where
    go : (b : Bool) → list_all is_digit (without_zeros (e ∷ ds)) ≡ true → list_all is_digit (cond b (without_zeros (e ∷ ds)) (d ∷ e ∷ ds)) ≡ true
    go true rest = rest
    go false rest = h

some_digit : (d : ℕ) (ds : List ℕ) → 0 < length (without_zeros (d ∷ ds))
unfolding without_zeros
some_digit d [] = omega arith
some_digit d (e ∷ ds) = go (eqb d 65) (some_digit e ds)
  where
    go : (b : Bool) → 0 < length (without_zeros (e ∷ ds)) → 0 < length (cond b (without_zeros (e ∷ ds)) (d ∷ e ∷ ds))
    go true h = h
    go false h = omega arith

-- ---- reading

magnitude_is : (n : ℕ) → n < 64 ^ 11 → magnitude (write_magnitude n) ≡ n
unfolding magnitude write_magnitude
magnitude_is n lt =
    let none : n / 64 ^ 11 ≡ 0 = omega arith in
    same_number (map (digit_at n) (places 11)) ∙ ap (λ m. fold and_digit m (map (digit_at n) (places 11))) (sym none) ∙ spells_from 11 n

pub nonempty_digits : (text : List ℕ) → 0 < length text → list_all is_digit text ≡ true → are_digits64 text ≡ true
nonempty_digits [] some all = absurd (omega arith)
nonempty_digits (c ∷ cs) some all = let e : eqb (length (c ∷ cs)) 0 ≡ false = ne_eqb (length (c ∷ cs)) 0 (λ h. omega (arith, h)) in rw e all

pub magnitude_digits : (n : ℕ) → are_digits64 (write_magnitude n) ≡ true
unfolding write_magnitude
magnitude_digits n = nonempty_digits _ (some_digit (digit_at n 10) (map (digit_at n) (places 10))) (still_digits (map (digit_at n) (places 11)) (are_digits n 11))

no_minus : (text : List ℕ) → are_digits64 text ≡ true → has_minus text ≡ false
unfolding digit64
no_minus [] e = absurd cc
no_minus (c ∷ cs) e = go (eqb c 45) refl (and_parts (is_digit c) (list_all is_digit cs) (and_parts (not (eqb (length (c ∷ cs)) 0)) (list_all is_digit (c ∷ cs)) e).1).0
  where
    no_digit : is_digit 45 ≡ true → ⊥
    no_digit h = absurd cc

    go : (b : Bool) → eqb c 45 ≡ b → is_digit c ≡ true → eqb c 45 ≡ false
    go true is h = absurd (no_digit (ap is_digit (sym (eqb-true c 45 is)) ∙ h))
    go false is h = is

reads_as : (text : List ℕ) (n : ℕ) → are_digits64 text ≡ true → magnitude text ≡ n → fits64 false n ≡ true → read_number text ≡ Ok (pos n)
unfolding read_number
reads_as text n digits number fits = rw (no_minus text digits, digits, number, fits) refl

reads_as_negative : (text : List ℕ) (n : ℕ) → are_digits64 text ≡ true → magnitude text ≡ n → fits64 true n ≡ true → read_number (45 ∷ text) ≡ Ok (neg_ℤ (pos n))
unfolding read_number
reads_as_negative text n digits number fits = rw (digits, number, fits) refl

negated : (n : ℕ) → neg_ℤ (pos (n + 1)) ≡ negsuc n
negated n = let e : n + 1 ≡ suc n = omega arith in rw e refl

not_below : (n : ℕ) → is_negative (pos n) ≡ false
not_below n = le-ltb n 0 (omega arith)

pub numbers_read_back_lem : NumbersReadBack
unfolding write_number
numbers_read_back_lem (pos n) fits =
    let in_64 : fits64 false n ≡ true = subst (λ b. fits64 b n ≡ true) (not_below n) fits in
    let below : n < 2 ^ 63 = ltb-true n (2 ^ 63) in_64 in
    reads_as (write_magnitude n) n (magnitude_digits n) (magnitude_is n (omega (arith, below))) in_64
numbers_read_back_lem (negsuc n) fits =
    let same : suc n ≡ n + 1 = omega arith in
    let in_64 : fits64 true (n + 1) ≡ true = subst (λ m. fits64 true m ≡ true) same fits in
    let within : n + 1 ≤ 2 ^ 63 = leb-true (n + 1) (2 ^ 63) in_64 in
    reads_as_negative (write_magnitude (n + 1)) (n + 1) (magnitude_digits (n + 1)) (magnitude_is (n + 1) (omega (arith, within))) in_64
    ∙ ap (λ z. Ok z) (negated n)

-- ---- no shorter text

next_power : (j : ℕ) → 64 ^ suc j ≡ 64 ^ j * 64
next_power j = simp unary_clauses refl

power_rises : (a d : ℕ) → 64 ^ a ≤ 64 ^ (a + d)
power_rises a zero = let e : a ≡ a + 0 = omega arith in subst (λ b. 64 ^ a ≤ 64 ^ b) e (omega arith)
power_rises a (suc d) =
    let e : suc (a + d) ≡ a + suc d = omega arith in
    let more : 64 ^ a ≤ 64 ^ suc (a + d) = omega (arith, power_rises a d, next_power (a + d)) in
    subst (λ b. 64 ^ a ≤ 64 ^ b) e more

found_at : (test : ℕ → Bool) (i : ℕ) (xs : List ℕ) (k : ℕ) → position_from test i xs ≡ Some k → (i ≤ k) × (k < i + length xs)
found_at test i [] k e = absurd cc
found_at test i (x ∷ xs) k e = go (test x) e (found_at test (i + 1) xs k)
  where
    some_is : Some i ≡ Some k → i ≡ k
    some_is h = ap (λ o. unwrap_or o 0) h

    go : (b : Bool) → cond b (Some i) (position_from test (i + 1) xs) ≡ Some k → (position_from test (i + 1) xs ≡ Some k → (i + 1 ≤ k) × (k < i + 1 + length xs)) → (i ≤ k) × (k < i + length (x ∷ xs))
    go true h rest = let same = some_is h in (omega (arith, same), omega (arith, same))
    go false h rest = let r = rest h in (omega (arith, r.0), omega (arith, r.1))

value_below : (c : ℕ) → unwrap_or (digit64 c) 0 < 64
unfolding digit64
value_below c = go (digit64 c) refl
  where
    go : (o : Option ℕ) → digit64 c ≡ o → unwrap_or o 0 < 64
    go None e = omega arith
    go (Some k) e = (found_at (λ d. eqb d c) 0 digits64 k e).1

-- a digit other than the first stands for 1 at least
value_above : (c : ℕ) → is_digit c ≡ true → eqb c 65 ≡ false → 1 ≤ unwrap_or (digit64 c) 0
unfolding digit64
value_above c digit other = go (digit64 c) refl digit
  where
    first : eqb 65 c ≡ false
    first = ne_eqb 65 c (λ e. eqb-false c 65 other (sym e))

    go : (o : Option ℕ) → digit64 c ≡ o → is_some o ≡ true → 1 ≤ unwrap_or o 0
    go None e h = absurd cc
    go (Some k) e h = (found_at (λ d. eqb d c) 1 (drop 1 digits64) k (sym (ap (λ b. cond b (Some 0) (position_from (λ d. eqb d c) 1 (drop 1 digits64))) first) ∙ e)).0

spells_below : (j n : ℕ) (ds : List ℕ) → n < 64 ^ j → fold and_digit n ds < 64 ^ (j + length ds)
spells_below j n [] lt = let e : j ≡ j + 0 = omega arith in subst (λ i. n < 64 ^ i) e lt
spells_below j n (d ∷ ds) lt =
    let e : suc j + length ds ≡ j + length (d ∷ ds) = omega arith in
    let value = value_below d in
    subst (λ i. fold and_digit n (d ∷ ds) < 64 ^ i) e (spells_below (suc j) (and_digit n d) ds (omega (arith, value, lt, next_power j)))

spells_above : (j n : ℕ) (ds : List ℕ) → 64 ^ j ≤ n → 64 ^ (j + length ds) ≤ fold and_digit n ds
spells_above j n [] le = let e : j ≡ j + 0 = omega arith in subst (λ i. 64 ^ i ≤ n) e le
spells_above j n (d ∷ ds) le =
    let e : suc j + length ds ≡ j + length (d ∷ ds) = omega arith in
    subst (λ i. 64 ^ i ≤ fold and_digit n (d ∷ ds)) e (spells_above (suc j) (and_digit n d) ds (omega (arith, le, next_power j)))

-- without zeros at the front, one digit is left or the number fills its digits
abbrev FillsDigits : List ℕ → Type 0
FillsDigits ds = (length ds ≤ 1) ⊎ (64 ^ (length ds - 1) ≤ fold and_digit 0 ds)

fills_digits : (ds : List ℕ) → list_all is_digit ds ≡ true → FillsDigits (without_zeros ds)
unfolding without_zeros
fills_digits [] all = inl (omega arith)
fills_digits (d ∷ []) all = inl (omega arith)
fills_digits (d ∷ e ∷ ds) all = go (eqb d 65) refl (fills_digits (e ∷ ds) (and_parts (is_digit d) (list_all is_digit (e ∷ ds)) all).1)
  where
    go : (b : Bool) → eqb d 65 ≡ b → FillsDigits (without_zeros (e ∷ ds)) → FillsDigits (cond b (without_zeros (e ∷ ds)) (d ∷ e ∷ ds))
    go true is rest = rest
    go false is rest =
        let value = value_above d (and_parts (is_digit d) (list_all is_digit (e ∷ ds)) all).0 is in
        let first : 64 ^ 0 ≤ and_digit 0 d = omega (arith, value) in
        let same : 0 + length (e ∷ ds) ≡ length (d ∷ e ∷ ds) - 1 = omega arith in
        inr (subst (λ i. 64 ^ i ≤ fold and_digit 0 (d ∷ e ∷ ds)) same (spells_above 0 (and_digit 0 d) (e ∷ ds) first))

-- digits of the same magnitude are at least as many
fewest : (n : ℕ) (digits : List ℕ) → n < 64 ^ 11 → 0 < length digits → magnitude digits ≡ n → length (write_magnitude n) ≤ length digits
unfolding write_magnitude magnitude
fewest n digits lt some is =
    let all = map (digit_at n) (places 11) in
    let spelled : fold and_digit 0 (without_zeros all) ≡ n = magnitude_is n lt in
    elim (fills_digits all (are_digits n 11)) [
      | inl one ↦ omega (arith, one, some)
      | inr fills ↦ elim (cases_lt (length (without_zeros all) - 1) (length digits)) [
        | inl less ↦ omega (arith, less)
        | inr more ↦
            let above : 64 ^ length digits ≤ 64 ^ (length (without_zeros all) - 1) =
            let e : length digits + (length (without_zeros all) - 1 - length digits) ≡ length (without_zeros all) - 1 = omega (arith, more) in
            subst (λ i. 64 ^ length digits ≤ 64 ^ i) e (power_rises (length digits) (length (without_zeros all) - 1 - length digits)) in
            let below : fold and_digit 0 digits < 64 ^ (0 + length digits) = spells_below 0 0 digits (omega arith) in
            let same : 0 + length digits ≡ length digits = omega arith in
            let under : fold and_digit 0 digits < 64 ^ length digits = subst (λ i. fold and_digit 0 digits < 64 ^ i) same below in
            absurd (omega (arith, fills, above, under, spelled, is))
      ]
    ]

-- what a text that is read says
read_is : (text : List ℕ) (z : ℤ) → read_number text ≡ Ok z → (are_digits64 (unsigned_part text) ≡ true) × (with_sign (has_minus text) (magnitude (unsigned_part text)) ≡ z)
unfolding read_number
read_is text z e =
    let digits = are_digits64 (unsigned_part text) in
    let fits = fits64 (has_minus text) (magnitude (unsigned_part text)) in
    elim (chosen (digits && fits) (Ok (with_sign (has_minus text) (magnitude (unsigned_part text)))) (Err 20) (Ok z) e) [
      | inl p ↦ ((and_parts digits fits p.0).0, ok_is (with_sign (has_minus text) (magnitude (unsigned_part text))) z p.1)
      | inr p ↦ absurd (not_ok p.1)
    ]
  where
    not_ok : ◌≡◌ {A = Result ℤ ℕ} (Err 20) (Ok z) → ⊥
    not_ok h = absurd cc

unsigned_length : (text : List ℕ) → length (unsigned_part text) + cond (has_minus text) 1 0 ≡ length text
unsigned_length [] = refl
unsigned_length (c ∷ cs) = go (eqb c 45)
  where
    go : (b : Bool) → length (cond b cs (c ∷ cs)) + cond b 1 0 ≡ length (c ∷ cs)
    go true = omega arith
    go false = omega arith

pub some_digits : (text : List ℕ) → are_digits64 text ≡ true → 0 < length text
some_digits [] e = absurd cc
some_digits (c ∷ cs) e = omega arith

abs_is : (b : Bool) (m : ℕ) (z : ℤ) → with_sign b m ≡ z → m ≡ nat_abs z
abs_is true zero z e = ap nat_abs e
abs_is true (suc m) z e = ap nat_abs e
abs_is false m z e = ap nat_abs e

has_sign : (b : Bool) (m n : ℕ) → with_sign b m ≡ negsuc n → b ≡ true
has_sign true m n e = refl
has_sign false m n e = absurd cc

least_length : (z : ℤ) → is_64_bits z ≡ true → (other : List ℕ) → read_number other ≡ Ok z → length (write_number z) ≤ length other
unfolding write_number
least_length (pos n) fits other e =
    let says = read_is other (pos n) e in
    let below : n < 2 ^ 63 = ltb-true n (2 ^ 63) (subst (λ b. fits64 b n ≡ true) (not_below n) fits) in
    let few = fewest n (unsigned_part other) (omega (arith, below)) (some_digits (unsigned_part other) says.0) (abs_is (has_minus other) (magnitude (unsigned_part other)) (pos n) says.1) in
    omega (arith, few, unsigned_length other)
least_length (negsuc n) fits other e =
    let says = read_is other (negsuc n) e in
    let next : suc n ≡ n + 1 = omega arith in
    let within : n + 1 ≤ 2 ^ 63 = leb-true (n + 1) (2 ^ 63) (subst (λ m. fits64 true m ≡ true) next fits) in
    let few = fewest (n + 1) (unsigned_part other) (omega (arith, within)) (some_digits (unsigned_part other) says.0) (abs_is (has_minus other) (magnitude (unsigned_part other)) (negsuc n) says.1 ∙ next) in
    let sign = has_sign (has_minus other) (magnitude (unsigned_part other)) n says.1 in
    let count : length (unsigned_part other) + 1 ≡ length other = ap (λ b. length (unsigned_part other) + cond b 1 0) (sym sign) ∙ unsigned_length other in
    omega (arith, few, count)

pub numbers_are_shortest_lem : NumbersAreShortest
numbers_are_shortest_lem z fits = record { reads = numbers_read_back_lem z fits; least = least_length z fits }
