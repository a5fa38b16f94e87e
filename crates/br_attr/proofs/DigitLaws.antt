-- The numbers that digits spell.
use Rattle.std.proofs.Common.{◌≡◌, ℕ, zero, suc, ◌+◌, ◌^◌, ◌<◌, ◌≤◌, Bool, true, false, ◌&&◌, cond, eqb, ltb, leb, get_or, drop, length, List, [], ◌∷◌, Option, Some, None, Ok, Err, refl, ap, subst, inl, inr, ◌∙◌, sym, arith}
use Rattle.std.specs.Prelude.{fold, is_some, option_and_then}
use Rattle.std.specs.List.{list_all}
use Rattle.std.proofs.lemmas.Bool.{eqb-true, cases_lt, lt-ltb, le-ltb, le-leb, lt-leb, ne_eqb, and_parts}
use Rattle.std.proofs.lemmas.List.{at_drop_more, at_drop_all}
use Rattle.std.specs.Char.{is_ascii_digit}
use Rattle.std.proofs.lemmas.Bool.Decides.{nat_tests}
use Rattle.br_model.specs.Answer.{◌>>=◌, some_or}
use Rattle.br_model.specs.Attribute.{read_positive}
use Rattle.br_model.specs.Text.{is_empty, decimal_value}
use Rattle.br_model.specs.Number.{digit64, magnitude, fits64, with_sign}
use Rattle.br_attr.specs.Digits.{digit_in_range, spelled_from, and_decimal, spelled64, spelled10, signed64, integer64, positive_or_fault}

-- ---- a digit is in its range

abbrev is_same : Option ℕ → Option ℕ → Bool
is_same None None = true
is_same None (Some n) = false
is_same (Some m) None = false
is_same (Some m) (Some n) = eqb m n

same : (o p : Option ℕ) → is_same o p ≡ true → o ≡ p
same None None e = refl
same None (Some n) e = absurd cc
same (Some m) None e = absurd cc
same (Some m) (Some n) e = ap (λ k. Some k) (eqb-true m n e)

abbrev passes_below : (ℕ → Bool) → ℕ → Bool
passes_below p zero = true
passes_below p (suc n) = p n && passes_below p n

passes_at : (p : ℕ → Bool) (n k : ℕ) → passes_below p n ≡ true → k < n → p k ≡ true
passes_at p zero k e lt = absurd (omega arith)
passes_at p (suc n) k e lt =
    elim (cases_lt k n) [
      | inl less ↦ passes_at p n k (and_parts (p n) (passes_below p n) e).1 less
      | inr le ↦ let equal : n ≡ k = omega arith in subst (λ i. p i ≡ true) equal (and_parts (p n) (passes_below p n) e).0
    ]

abbrev agrees : ℕ → Bool
agrees c = is_same (digit_in_range c) (digit64 c)

all_bytes_agree : passes_below agrees 256 ≡ true
unfolding digit64
all_bytes_agree = refl

pub digit_is : (c : ℕ) → c < 256 → digit64 c ≡ digit_in_range c
digit_is c lt = sym (same (digit_in_range c) (digit64 c) (passes_at agrees 256 c all_bytes_agree lt))

-- with the tests of ranges
pub ruleset digit_rules = (digit_is, nat_tests)

-- ---- step by step

module _ (is_digit : ℕ → Bool) (and_digit : ℕ → ℕ → ℕ) (limit : ℕ) where
  pub spelled_end : (n : ℕ) → n < limit → spelled_from is_digit and_digit limit n [] ≡ Some n
  unfolding spelled_from
  spelled_end n lt = let e : ltb n limit ≡ true = lt-ltb n limit lt in rw e refl

  pub spelled_more : (n x : ℕ) (xs : List ℕ) → is_digit x ≡ true → spelled_from is_digit and_digit limit n (x ∷ xs) ≡ spelled_from is_digit and_digit limit (and_digit n x) xs
  unfolding spelled_from
  spelled_more n x xs digit = rw digit refl

  pub spelled_bad : (n x : ℕ) (xs : List ℕ) → is_digit x ≡ false → spelled_from is_digit and_digit limit n (x ∷ xs) ≡ None
  unfolding spelled_from
  spelled_bad n x xs bad = rw bad refl

  fold_rises : ((n c : ℕ) → n ≤ and_digit n c) → (n : ℕ) (xs : List ℕ) → n ≤ fold and_digit n xs
  fold_rises rises n [] = omega arith
  fold_rises rises n (x ∷ xs) = omega (arith, rises n x, fold_rises rises (and_digit n x) xs)

  -- more digits never make the number smaller
  pub spelled_over : ((n c : ℕ) → n ≤ and_digit n c) → (n x : ℕ) (xs : List ℕ) → limit ≤ and_digit n x → spelled_from is_digit and_digit limit n (x ∷ xs) ≡ None
  unfolding spelled_from
  spelled_over rises n x xs over =
      let e : ltb (fold and_digit (and_digit n x) xs) limit ≡ false = le-ltb (fold and_digit (and_digit n x) xs) limit (omega (arith, over, fold_rises rises (and_digit n x) xs)) in
      rw e (none (list_all is_digit (x ∷ xs)))
    where
      none : (b : Bool) → cond (b && false) (Some (fold and_digit (and_digit n x) xs)) None ≡ None
      none true = refl
      none false = refl

  -- the same at a place of a text
  module _ (xs : List ℕ) (i n : ℕ) (within : i < length xs) where
    pub spelled_more_at : is_digit (get_or xs i 0) ≡ true → spelled_from is_digit and_digit limit n (drop i xs) ≡ spelled_from is_digit and_digit limit (and_digit n (get_or xs i 0)) (drop (i + 1) xs)
    spelled_more_at digit = at_drop_more (spelled_from is_digit and_digit limit n) xs i 0 within ∙ spelled_more n (get_or xs i 0) (drop (i + 1) xs) digit

    pub spelled_bad_at : is_digit (get_or xs i 0) ≡ false → spelled_from is_digit and_digit limit n (drop i xs) ≡ None
    spelled_bad_at bad = at_drop_more (spelled_from is_digit and_digit limit n) xs i 0 within ∙ spelled_bad n (get_or xs i 0) (drop (i + 1) xs) bad

    pub spelled_over_at : ((m c : ℕ) → m ≤ and_digit m c) → limit ≤ and_digit n (get_or xs i 0) → spelled_from is_digit and_digit limit n (drop i xs) ≡ None
    spelled_over_at rises over = at_drop_more (spelled_from is_digit and_digit limit n) xs i 0 within ∙ spelled_over rises n (get_or xs i 0) (drop (i + 1) xs) over

  pub spelled_all : (xs : List ℕ) (i n : ℕ) → length xs ≤ i → n < limit → spelled_from is_digit and_digit limit n (drop i xs) ≡ Some n
  spelled_all xs i n past lt = at_drop_all (spelled_from is_digit and_digit limit n) xs i past ∙ spelled_end n lt

-- ---- an integer

pub integer_of_spelled : (minus : Bool) (digits : List ℕ) → is_empty digits ≡ false → integer64 minus digits ≡ option_and_then (signed64 minus) (spelled64 digits)
unfolding magnitude spelled_from
integer_of_spelled minus digits some = rw some (go minus (list_all (λ c. is_some (digit64 c)) digits) (magnitude digits))
  where
    go : (m b : Bool) (n : ℕ) → cond (b && fits64 m n) (Some (with_sign m n)) None ≡ option_and_then (signed64 m) (cond (b && ltb n (2 ^ 64)) (Some n) None)
    go m false n = refl
    go true true n = elim (cases_lt n (2 ^ 64)) [
      | inl less ↦ let e : ltb n (2 ^ 64) ≡ true = lt-ltb n (2 ^ 64) less in rw e refl
      | inr more ↦ let e : ltb n (2 ^ 64) ≡ false = le-ltb n (2 ^ 64) more in let f : leb n (2 ^ 63) ≡ false = lt-leb n (2 ^ 63) (omega arith) in rw (e, f) refl
    ]
    go false true n = elim (cases_lt n (2 ^ 64)) [
      | inl less ↦ let e : ltb n (2 ^ 64) ≡ true = lt-ltb n (2 ^ 64) less in rw e refl
      | inr more ↦ let e : ltb n (2 ^ 64) ≡ false = le-ltb n (2 ^ 64) more in let f : ltb n (2 ^ 63) ≡ false = le-ltb n (2 ^ 63) (omega arith) in rw (e, f) refl
    ]

-- ---- a decimal number

pub positive_is : (text : List ℕ) → read_positive text ≡ positive_or_fault (spelled10 text)
unfolding read_positive decimal_value spelled_from
positive_is [] = refl
positive_is (c ∷ cs) = let some : eqb (length (c ∷ cs)) 0 ≡ false = ne_eqb (length (c ∷ cs)) 0 (λ e. omega (arith, e)) in rw some (go (list_all is_ascii_digit (c ∷ cs)) (fold and_decimal 0 (c ∷ cs)))
  where
    go : (b : Bool) (n : ℕ) → (some_or (cond b (Some n) None) 20 >>= λ m. cond (leb 1 m && ltb m (2 ^ 31)) (Ok m) (Err 20)) ≡ positive_or_fault (cond (b && ltb n (2 ^ 32)) (Some n) None)
    go false n = refl
    go true n = elim (cases_lt n (2 ^ 32)) [
      | inl less ↦ let e : ltb n (2 ^ 32) ≡ true = lt-ltb n (2 ^ 32) less in rw e refl
      | inr more ↦
          let e : ltb n (2 ^ 32) ≡ false = le-ltb n (2 ^ 32) more in
          let f : ltb n (2 ^ 31) ≡ false = le-ltb n (2 ^ 31) (omega arith) in
          let g : leb 1 n ≡ true = le-leb 1 n (omega arith) in
          rw (e, f, g) refl
    ]
