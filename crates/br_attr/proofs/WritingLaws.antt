-- Digits that are written, the most significant first.
use Rattle.std.proofs.Common.{◌≡◌, ◌≢◌, ℕ, zero, suc, ◌+◌, ◌-◌, ◌<◌, ◌^◌, true, false, eqb, ltb, List, [], ◌∷◌, ◌++◌, get_or, refl, ap, sym, ◌∙◌, arith, append_assoc, w64, SFits}
use Rattle.std.proofs.lemmas.Bool.{ne_eqb, lt-ltb, le-ltb, le-leb}
use Rattle.std.specs.Prelude.{ℤ, pos, negsuc, map, take, drop, flat_map}
use Rattle.std.specs.List.{join_with_byte}
use Rattle.br_model.specs.Number.{digit_at, without_zeros, is_64_bits, write_magnitude, write_number}
use Rattle.br_model.specs.Attribute.{Stat, stat_numbers, write_stat}
use Rattle.br_attr.specs.Digits.{last_digits}

-- ---- without leading zeros

skip_zero : (d e : ℕ) (ds : List ℕ) → d ≡ 65 → without_zeros (d ∷ e ∷ ds) ≡ without_zeros (e ∷ ds)
unfolding without_zeros
skip_zero d e ds same = rw same refl

keep_digit : (d e : ℕ) (ds : List ℕ) → d ≢ 65 → without_zeros (d ∷ e ∷ ds) ≡ d ∷ e ∷ ds
unfolding without_zeros
keep_digit d e ds other = let is : eqb d 65 ≡ false = ne_eqb d 65 other in rw is refl

pub all_digits : (n : ℕ) → without_zeros (last_digits n 11) ≡ write_magnitude n
unfolding write_magnitude
all_digits n = refl

pub past_zero : (n place : ℕ) → 0 < place → digit_at n place ≡ 65 → without_zeros (last_digits n (place - 1 + 1)) ≡ without_zeros (last_digits n (place + 1))
past_zero n zero some same = absurd (omega arith)
past_zero n (suc k) some same =
    let less : suc k - 1 + 1 ≡ suc k = omega arith in
    let more : suc k + 1 ≡ suc (suc k) = omega arith in
    ap (λ i. without_zeros (last_digits n i)) less ∙ sym (skip_zero (digit_at n (suc k)) (digit_at n k) (last_digits n k) same) ∙ ap (λ i. without_zeros (last_digits n i)) (sym more)

pub at_digit : (n place : ℕ) → 0 < place → digit_at n place ≢ 65 → without_zeros (last_digits n (place + 1)) ≡ last_digits n (place + 1)
at_digit n zero some other = absurd (omega arith)
at_digit n (suc k) some other =
    let more : suc k + 1 ≡ suc (suc k) = omega arith in
    rw more (keep_digit (digit_at n (suc k)) (digit_at n k) (last_digits n k) other)

pub at_last : (n place : ℕ) → place ≡ 0 → without_zeros (last_digits n (place + 1)) ≡ last_digits n (place + 1)
unfolding without_zeros
at_last n place none = rw none refl

-- ---- one more digit

pub digit_more : (n place d : ℕ) (text : List ℕ) → 0 < place → d ≡ digit_at n (place - 1) → (text ++ d ∷ []) ++ last_digits n (place - 1) ≡ text ++ last_digits n place
digit_more n zero d text some is = absurd (omega arith)
digit_more n (suc k) d text some is =
    let less : suc k - 1 ≡ k = omega arith in
    let first : d ≡ digit_at n k = is ∙ ap (digit_at n) less in
    ap (λ i. (text ++ d ∷ []) ++ last_digits n i) less ∙ append_assoc text (d ∷ []) (last_digits n k) ∙ ap (λ c. text ++ c ∷ last_digits n k) first

-- ---- numbers with a space between two

abbrev pub spaced : List ℤ → List ℕ
spaced ns = flat_map (λ n. 32 ∷ write_number n) ns

joined : (n : ℤ) (ns : List ℤ) → write_number n ++ spaced ns ≡ join_with_byte 32 (map write_number (n ∷ ns))
joined n [] = append_nil (write_number n)
  where
    append_nil : (xs : List ℕ) → xs ++ [] ≡ xs
    append_nil [] = refl
    append_nil (x ∷ xs) = ap (λ ys. x ∷ ys) (append_nil xs)
joined n (m ∷ ns) = ap (λ t. write_number n ++ 32 ∷ t) (joined m ns)

pub stat_joined : (s : Stat) (ns : List ℤ) (text front : List ℕ) → ns ≡ stat_numbers s → front ≡ text ++ write_number (get_or ns 0 (pos 0)) → front ++ spaced (take 13 (drop 1 ns)) ≡ text ++ write_stat s
unfolding write_stat
stat_joined s ns text front same is =
    let behind : List ℤ = drop 1 (stat_numbers s) in
    let first : front ≡ text ++ write_number s.dev = is ∙ ap (λ (ms : List ℤ). text ++ write_number (get_or ms 0 (pos 0))) same in
    ap (λ (ms : List ℤ). front ++ spaced (take 13 (drop 1 ms))) same ∙ ap (λ t. t ++ spaced behind) first ∙ append_assoc text (write_number s.dev) (spaced behind) ∙ ap (λ t. text ++ t) (joined s.dev behind)

-- ---- an integer of 64 bits

pub bits_of : (z : ℤ) → SFits w64 z → is_64_bits z ≡ true
bits_of (pos n) fits =
    let at_least : ltb n 0 ≡ false = le-ltb n 0 (omega arith) in
    let below : ltb n (2 ^ 63) ≡ true = lt-ltb n (2 ^ 63) fits.sfits in
    rw at_least below
bits_of (negsuc n) fits = le-leb (suc n) (2 ^ 63) (omega (arith, fits.sfits))
