-- The ranges of some numbers admit these numbers, and no others.
use Rattle.std.proofs.Common.{◌≡◌, ℕ, ◌+◌, ◌≤◌, Bool, true, false, ◌||◌, cond, eqb, List, [], ◌∷◌, Decides, refl, sym, ap, subst, ◌∙◌, arith}
use Rattle.std.proofs.Math.Bool.{or_assoc}
use Rattle.std.proofs.lemmas.Bool.{eqb-true, eq-eqb}
use Rattle.std.proofs.lemmas.Bool.Decides.{nat_tests}
use Rattle.std.specs.Prelude.{Contains}
use Rattle.std.specs.Int.{is_in_range}
use Rattle.std.specs.List.{AllByRecursion, list_any}
use Rattle.br_model.specs.Text.{is_empty}
use Rattle.br_model.specs.Bootstrap.{Range, admits}
use Rattle.br_model.specs.Plan.{onto_ranges, ranges_of}
use Rattle.br_model.proofs.ListLaws.{cons_not_empty, from_some, some_passes}

-- the lowest number of a range is not above its highest
abbrev pub IsRange : Range → Type 0
IsRange r = r.low ≤ r.high

-- whether a number is in one of the ranges
abbrev pub in_ranges : List Range → ℕ → Bool
in_ranges rs n = list_any (λ (r : Range). is_in_range r.low r.high n) rs

-- whether a number is one of the numbers
abbrev pub is_one_of : List ℕ → ℕ → Bool
is_one_of xs n = list_any (λ x. eqb x n) xs

-- the ranges with a number in front are ranges
onto_ranges_are : (i : ℕ) (rs : List Range) → AllByRecursion IsRange rs → AllByRecursion IsRange (onto_ranges i rs)
onto_ranges_are i [] h = (omega arith, tt)
onto_ranges_are i (r ∷ rs) h = go (eqb r.low (i + 1)) refl
  where
    go : (b : Bool) → eqb r.low (i + 1) ≡ b → AllByRecursion IsRange (cond b (record { low = i; high = r.high } ∷ rs) (record { low = i; high = i } ∷ r ∷ rs))
    go true e = let is : r.low ≡ i + 1 = eqb-true r.low (i + 1) e in let le : r.low ≤ r.high = h.0 in (omega arith, h.1)
    go false e = (omega arith, h)

-- each of the ranges of some numbers has its ends in order
pub ranges_are : (xs : List ℕ) → AllByRecursion IsRange (ranges_of xs)
unfolding ranges_of
ranges_are [] = tt
ranges_are (x ∷ xs) = onto_ranges_are x (ranges_of xs) (ranges_are xs)

one_alone : (i n : ℕ) → is_in_range i i n ≡ eqb i n
one_alone i n = grind (arith, nat_tests)

one_more : (i high n : ℕ) → i ≤ high → is_in_range i high n ≡ (eqb i n || is_in_range (i + 1) high n)
one_more i high n le = grind (arith, nat_tests)

-- a number before ranges is one more number that they have
onto_ranges_has : (i : ℕ) (rs : List Range) (n : ℕ) → AllByRecursion IsRange rs → in_ranges (onto_ranges i rs) n ≡ (eqb i n || in_ranges rs n)
onto_ranges_has i [] n h = ap (λ b. b || false) (one_alone i n)
onto_ranges_has i (r ∷ rs) n h = go (eqb r.low (i + 1)) refl
  where
    go : (b : Bool) → eqb r.low (i + 1) ≡ b → in_ranges (cond b (record { low = i; high = r.high } ∷ rs) (record { low = i; high = i } ∷ r ∷ rs)) n ≡ (eqb i n || in_ranges (r ∷ rs) n)
    go true e =
        let is : r.low ≡ i + 1 = eqb-true r.low (i + 1) e in
        let le : r.low ≤ r.high = h.0 in
        ap (λ b. b || in_ranges rs n) (one_more i r.high n (omega arith) ∙ ap (λ low. eqb i n || is_in_range low r.high n) (sym is))
        ∙ or_assoc (eqb i n) (is_in_range r.low r.high n) (in_ranges rs n)
    go false e = ap (λ b. b || in_ranges (r ∷ rs) n) (one_alone i n)

-- a number is in one of the ranges of some numbers if it is one of these
pub in_ranges_of : (xs : List ℕ) (n : ℕ) → in_ranges (ranges_of xs) n ≡ is_one_of xs n
unfolding ranges_of
in_ranges_of [] n = refl
in_ranges_of (x ∷ xs) n = onto_ranges_has x (ranges_of xs) n (ranges_are xs) ∙ ap (λ b. eqb x n || b) (in_ranges_of xs n)

onto_some : (i : ℕ) (rs : List Range) → is_empty (onto_ranges i rs) ≡ false
onto_some i [] = cons_not_empty {X = Range} (record { low = i; high = i }) []
onto_some i (r ∷ rs) = go (eqb r.low (i + 1))
  where
    go : (b : Bool) → is_empty (cond b (record { low = i; high = r.high } ∷ rs) (record { low = i; high = i } ∷ r ∷ rs)) ≡ false
    go true = cons_not_empty {X = Range} (record { low = i; high = r.high }) rs
    go false = cons_not_empty {X = Range} (record { low = i; high = i }) (r ∷ rs)

-- some numbers have ranges
pub ranges_not_empty : (xs : List ℕ) → is_empty xs ≡ false → is_empty (ranges_of xs) ≡ false
unfolding ranges_of
ranges_not_empty [] e = e
ranges_not_empty (x ∷ xs) e = onto_some x (ranges_of xs)

-- the ranges of some numbers admit a number if it is one of these
pub admits_ranges_of : (xs : List ℕ) (n : ℕ) → is_empty xs ≡ false → admits (ranges_of xs) n ≡ is_one_of xs n
admits_ranges_of xs n e = ap (λ b. b || in_ranges (ranges_of xs) n) (ranges_not_empty xs e) ∙ in_ranges_of xs n

-- the test whether a number is one of the numbers
pub is_one_of-Decides : (xs : List ℕ) (n : ℕ) → Decides (is_one_of xs n) (Contains xs n)
is_one_of-Decides xs n = (
  (λ e. let r = from_some (λ x. eqb x n) xs e in subst (Contains xs) (eqb-true r.0 n r.2) r.1),
  (λ h. some_passes (λ x. eqb x n) xs n h (eq-eqb n n refl)),
)

-- the ranges of some numbers admit exactly the numbers among them
pub admits_exactly : (xs : List ℕ) (n : ℕ) → is_empty xs ≡ false → Decides (admits (ranges_of xs) n) (Contains xs n)
admits_exactly xs n e =
    let d = is_one_of-Decides xs n in
    let same = admits_ranges_of xs n e in
    (λ p. d.0 (sym same ∙ p), λ h. same ∙ d.1 h)
