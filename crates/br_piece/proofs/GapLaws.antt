-- The gaps between numbers in order are the ranges of the numbers that are not among them.
use Rattle.std.proofs.Common.{◌≡◌, ℕ, zero, suc, ◌+◌, ◌-◌, ◌<◌, ◌≤◌, Bool, true, false, not, ◌||◌, cond, eqb, ltb, leb, List, [], ◌∷◌, ◌++◌, filter, refl, sym, ap, subst, ◌∙◌, arith}
use Rattle.std.proofs.lemmas.Bool.{eq-eqb, ne_eqb, ltb-true, ltb-false, lt-ltb, le-ltb, le-leb, leb-true, false_from_ne_true}
use Rattle.std.proofs.lemmas.List.Elements.{filter-append}
use Rattle.std.proofs.lemmas.List.{append-nil}
use Rattle.std.specs.Prelude.{max}
use Rattle.std.specs.List.{range_with_len, AllByRecursion}
use Rattle.br_model.specs.Bootstrap.{Range}
use Rattle.br_model.specs.Plan.{onto_ranges, ranges_of}
use Rattle.br_model.proofs.ListLaws.{all_filter, all_weaker, keeps_all}
use Rattle.br_model.proofs.RangeLaws.{is_one_of}
use Rattle.br_piece.specs.Gaps.{up_to, to_end, gaps}

-- ---- numbers in a row

-- a row of numbers is two rows
pub row_parts : (a m n : ℕ) → range_with_len a (m + n) ≡ range_with_len a m ++ range_with_len (a + m) n
row_parts a zero n =
    let none : 0 + n ≡ n = omega arith in
    let same : a ≡ a + 0 = omega arith in
    ap (range_with_len a) none ∙ ap (λ b. range_with_len b n) same
row_parts a (suc m) n =
    let one : suc m + n ≡ suc (m + n) = omega arith in
    let next : a + 1 + m ≡ a + suc m = omega arith in
    ap (range_with_len a) one ∙ ap (λ (xs : List ℕ). a ∷ xs) (row_parts (a + 1) m n ∙ ap (λ b. range_with_len (a + 1) m ++ range_with_len b n) next)

-- each number of a row is from its first to its last
pub row_within : (P : ℕ → Type 0) (a n : ℕ) → ((i : ℕ) → a ≤ i → i < a + n → P i) → AllByRecursion P (range_with_len a n)
row_within P a zero h = tt
row_within P a (suc n) h = (h a (omega arith) (omega arith), row_within P (a + 1) n (λ i le lt. h i (omega (arith, le)) (omega (arith, lt))))

-- a test that gives the same of each element keeps the same
pub filter_same : {X : Type 0} (p q : X → Bool) (xs : List X) → AllByRecursion (λ x. p x ≡ q x) xs → filter p xs ≡ filter q xs
filter_same p q [] h = refl
filter_same p q (x ∷ xs) h = ap (λ b. cond b (x ∷ filter p xs) (filter p xs)) h.0 ∙ ap (λ ys. cond (q x) (x ∷ ys) ys) (filter_same p q xs h.1)

-- ---- ranges of rows

-- the ranges begin above a number
abbrev pub BeginAbove : ℕ → List Range → Type 0
BeginAbove n [] = Unit {0}
BeginAbove n (r ∷ rs) = n < r.low

-- a row before numbers that begin above the next one is a range of its own
row_alone : (a n : ℕ) (rest : List ℕ) → BeginAbove (a + n + 1) (ranges_of rest) → ranges_of (range_with_len a (suc n) ++ rest) ≡ record { low = a; high = a + n } ∷ ranges_of rest
unfolding ranges_of
row_alone a zero rest above =
    let same : a ≡ a + 0 = omega arith in
    go (ranges_of rest) above ∙ ap (λ h. record { low = a; high = h } ∷ ranges_of rest) same
  where
    go : (rs : List Range) → BeginAbove (a + 0 + 1) rs → onto_ranges a rs ≡ record { low = a; high = a } ∷ rs
    go [] h = refl
    go (r ∷ rs) h = ap (λ b. cond b (record { low = a; high = r.high } ∷ rs) (record { low = a; high = a } ∷ r ∷ rs)) (ne_eqb r.low (a + 1) (λ e. omega (arith, h, e)))
row_alone a (suc n) rest above =
    let next : a + suc n + 1 ≡ a + 1 + n + 1 = omega arith in
    let last : a + 1 + n ≡ a + suc n = omega arith in
    let more = row_alone (a + 1) n rest (subst (λ k. BeginAbove k (ranges_of rest)) next above) in
    ap (onto_ranges a) more
    ∙ ap (λ b. cond b (record { low = a; high = a + 1 + n } ∷ ranges_of rest) (record { low = a; high = a } ∷ record { low = a + 1; high = a + 1 + n } ∷ ranges_of rest)) (eq-eqb (a + 1) (a + 1) refl)
    ∙ ap (λ h. record { low = a; high = h } ∷ ranges_of rest) last

-- the ranges of a row begin with it
ranges_begin : (n : ℕ) (xs : List ℕ) → AllByRecursion (λ i. n < i) xs → BeginAbove n (ranges_of xs)
unfolding ranges_of
ranges_begin n [] h = tt
ranges_begin n (x ∷ xs) h = go (ranges_of xs)
  where
    go : (rs : List Range) → BeginAbove n (onto_ranges x rs)
    go [] = h.0
    go (r ∷ rs) = by (eqb r.low (x + 1))
      where
        by : (b : Bool) → BeginAbove n (cond b (record { low = x; high = r.high } ∷ rs) (record { low = x; high = x } ∷ r ∷ rs))
        by true = h.0
        by false = h.0

-- a row up to a number, and numbers above that one
row_up_to : (a b : ℕ) (rest : List ℕ) → AllByRecursion (λ i. b < i) rest → ranges_of (range_with_len a (b - a) ++ rest) ≡ up_to a b ++ ranges_of rest
row_up_to a b rest above = go (b - a) refl
  where
    go : (n : ℕ) → b - a ≡ n → ranges_of (range_with_len a n ++ rest) ≡ up_to a b ++ ranges_of rest
    go zero is = ap (λ t. cond t (record { low = a; high = b - 1 } ∷ []) [] ++ ranges_of rest) (sym (le-ltb a b (omega (arith, is))))
    go (suc n) is =
        let end : a + n + 1 ≡ b = omega (arith, is) in
        let last : a + n ≡ b - 1 = omega (arith, is) in
        row_alone a n rest (ranges_begin (a + n + 1) rest (subst (λ k. AllByRecursion (λ i. k < i) rest) (sym end) above))
        ∙ ap (λ h. record { low = a; high = h } ∷ ranges_of rest) last
        ∙ ap (λ t. cond t (record { low = a; high = b - 1 } ∷ []) [] ++ ranges_of rest) (sym (lt-ltb a b (omega (arith, is))))

-- a row to its end
row_to_end : (a b : ℕ) → ranges_of (range_with_len a (b + 1 - a)) ≡ to_end a b
unfolding ranges_of
row_to_end a b = go (b + 1 - a) refl
  where
    go : (n : ℕ) → b + 1 - a ≡ n → ranges_of (range_with_len a n) ≡ to_end a b
    go zero is = ap (λ t. cond t (record { low = a; high = b } ∷ []) []) (sym (false_from_ne_true (leb a b) (λ e. let le = leb-true a b e in omega (arith, le, is))))
    go (suc n) is =
        let last : a + n ≡ b = omega (arith, is) in
        ap ranges_of (sym (append-nil (range_with_len a (suc n)))) ∙ row_alone a n [] tt
        ∙ ap (λ h. record { low = a; high = h } ∷ []) last
        ∙ ap (λ t. cond t (record { low = a; high = b } ∷ []) []) (sym (le-leb a b (omega (arith, is))))

-- ---- gaps

-- whether a number is not one of some
abbrev pub is_out : List ℕ → ℕ → Bool
is_out ns i = not (is_one_of ns i)

-- numbers in order, each at most the next
abbrev pub Rise : List ℕ → Type 0
Rise [] = Unit {0}
Rise (n ∷ ns) = AllByRecursion (λ m. n ≤ m) ns × Rise ns

below_all : (n : ℕ) (ns : List ℕ) → AllByRecursion (λ m. n < m) ns → is_one_of ns n ≡ false
below_all n [] h = refl
below_all n (m ∷ ns) h = ap (λ b. b || is_one_of ns n) (ne_eqb m n (λ e. omega (arith, e, h.0))) ∙ below_all n ns h.1

-- the gaps between numbers in order are the ranges of the others
pub gaps_are : (next high : ℕ) (ns : List ℕ) → Rise ns → AllByRecursion (λ n. n ≤ high) ns
    → gaps next high ns ≡ ranges_of (filter (is_out ns) (range_with_len next (high + 1 - next)))
gaps_are next high [] rise le =
    sym (ap ranges_of (keeps_all (is_out []) (range_with_len next (high + 1 - next)) (row_within (λ i. is_out [] i ≡ true) next (high + 1 - next) (λ i ge lt. refl)))
    ∙ row_to_end next high)
gaps_are next high (n ∷ ns) rise le = go (ltb n next) refl (λ a. gaps_are a high ns rise.1 le.1)
  where
    rest : ℕ → List ℕ
    rest a = range_with_len a (high + 1 - a)

    more : (a : ℕ) → n < a → filter (is_out (n ∷ ns)) (rest a) ≡ filter (is_out ns) (rest a)
    more a gt =
        filter_same (is_out (n ∷ ns)) (is_out ns) (rest a)
        (row_within (λ i. is_out (n ∷ ns) i ≡ is_out ns i) a (high + 1 - a) (λ i ge lt. ap (λ b. not (b || is_one_of ns i)) (ne_eqb n i (λ e. omega (arith, e, ge, gt)))))

    up_to_none : n < next → up_to next n ≡ []
    up_to_none lt = ap (λ t. cond t (record { low = next; high = n - 1 } ∷ []) []) (le-ltb next n (omega (arith, lt)))

    go : (b : Bool) → ltb n next ≡ b → ((a : ℕ) → gaps a high ns ≡ ranges_of (filter (is_out ns) (rest a)))
        → gaps next high (n ∷ ns) ≡ ranges_of (filter (is_out (n ∷ ns)) (rest next))
    go true below others =
        let lt : n < next = ltb-true n next below in
        let stays : max next (n + 1) ≡ next = omega (arith, lt) in
        ap (λ xs. xs ++ gaps (max next (n + 1)) high ns) (up_to_none lt) ∙ ap (λ a. gaps a high ns) stays ∙ others next ∙ ap ranges_of (sym (more next lt))
    go false above others =
        let ge : next ≤ n = ltb-false n next above in
        let is : max next (n + 1) ≡ n + 1 = omega (arith, ge) in
        let top : n ≤ high = le.0 in
        let parts : high + 1 - next ≡ (n - next) + suc (high + 1 - (n + 1)) = omega (arith, ge, top) in
        let joined : next + (n - next) ≡ n = omega (arith, ge) in
        let cut : rest next ≡ range_with_len next (n - next) ++ n ∷ rest (n + 1) =
        ap (range_with_len next) parts ∙ row_parts next (n - next) (suc (high + 1 - (n + 1))) ∙ ap (λ a. range_with_len next (n - next) ++ range_with_len a (suc (high + 1 - (n + 1)))) joined in
        let front : filter (is_out (n ∷ ns)) (range_with_len next (n - next)) ≡ range_with_len next (n - next) =
        keeps_all (is_out (n ∷ ns)) (range_with_len next (n - next)) (row_within (λ i. is_out (n ∷ ns) i ≡ true) next (n - next) (λ i low lt. out i (omega (arith, lt, joined)))) in
        let back : filter (is_out (n ∷ ns)) (n ∷ rest (n + 1)) ≡ filter (is_out ns) (rest (n + 1)) =
        ap (λ b. cond (not (b || is_one_of ns n)) (n ∷ filter (is_out (n ∷ ns)) (rest (n + 1))) (filter (is_out (n ∷ ns)) (rest (n + 1)))) (eq-eqb n n refl) ∙ more (n + 1) (omega arith) in
        sym (ap (λ xs. ranges_of (filter (is_out (n ∷ ns)) xs)) cut
        ∙ ap ranges_of (filter-append (is_out (n ∷ ns)) (range_with_len next (n - next)) (n ∷ rest (n + 1)))
        ∙ ap (λ xs. ranges_of (xs ++ filter (is_out (n ∷ ns)) (n ∷ rest (n + 1)))) front
        ∙ ap (λ xs. ranges_of (range_with_len next (n - next) ++ xs)) back
        ∙ row_up_to next n (filter (is_out ns) (rest (n + 1))) (all_filter (λ i. n < i) (is_out ns) (rest (n + 1)) (row_within (λ i. n < i) (n + 1) (high + 1 - (n + 1)) (λ i low lt. omega (arith, low))))
        ∙ ap (λ xs. up_to next n ++ xs) (sym (others (n + 1))) ∙ ap (λ a. up_to next n ++ gaps a high ns) (sym is))
      where
        out : (i : ℕ) → i < n → is_out (n ∷ ns) i ≡ true
        out i lt = ap not (below_all i (n ∷ ns) (lt, all_weaker (λ m. n ≤ m) (λ m. i < m) (λ m h. omega (arith, h, lt)) ns rise.0))
