-- Ranges that grow at their end.
use Rattle.std.proofs.Common.{◌≡◌, ℕ, zero, suc, ◌+◌, ◌-◌, ◌<◌, ◌≤◌, Bool, true, false, cond, eqb, List, [], ◌∷◌, ◌++◌, length, get_or, refl, sym, ap, ◌∙◌, arith}
use Rattle.std.proofs.Math.ListN.{set}
use Rattle.std.proofs.lemmas.List.{set-get_or}
use Rattle.std.proofs.lemmas.Bool.{eqb-true, eq-eqb, both_ways, false_from_ne_true, ne_eqb}
use Rattle.br_model.specs.Bootstrap.{Range}
use Rattle.br_model.specs.Plan.{onto_ranges, ranges_of}
use Rattle.br_plan.specs.Parts.{with_number, with_run}

-- whether two numbers are equal, asked the other way round
pub eqb_turned : (a b : ℕ) → eqb a b ≡ eqb b a
eqb_turned a b = go (eqb a b) refl
  where
    go : (t : Bool) → eqb a b ≡ t → eqb a b ≡ eqb b a
    go true e = e ∙ sym (eq-eqb b a (sym (eqb-true a b e)))
    go false e = e ∙ sym (false_from_ne_true (eqb b a) (λ f. both_ways (eqb a b) e (eq-eqb a b (sym (eqb-true b a f)))))

-- a number goes to the front of ranges whatever follows them
front_and_back : (i x : ℕ) (rs : List Range) → onto_ranges i (with_number rs x) ≡ with_number (onto_ranges i rs) x
front_and_back i x [] = ap (λ b. cond b (record { low = i; high = x } ∷ []) (record { low = i; high = i } ∷ record { low = x; high = x } ∷ [])) (eqb_turned x (i + 1))
front_and_back i x (r ∷ []) = go (eqb r.low (i + 1)) (eqb (r.high + 1) x) refl refl
  where
    go : (b c : Bool) → eqb r.low (i + 1) ≡ b → eqb (r.high + 1) x ≡ c
        → onto_ranges i (cond c (record { low = r.low; high = x } ∷ []) (r ∷ record { low = x; high = x } ∷ []))
        ≡ with_number (cond b (record { low = i; high = r.high } ∷ []) (record { low = i; high = i } ∷ r ∷ [])) x
    go true true e f = rw (e, f) refl
    go true false e f = rw (e, f) refl
    go false true e f = rw (e, f) refl
    go false false e f = rw (e, f) refl
front_and_back i x (r ∷ s ∷ rs) = go (eqb r.low (i + 1))
  where
    go : (b : Bool) → cond b (record { low = i; high = r.high } ∷ with_number (s ∷ rs) x) (record { low = i; high = i } ∷ r ∷ with_number (s ∷ rs) x)
        ≡ with_number (cond b (record { low = i; high = r.high } ∷ s ∷ rs) (record { low = i; high = i } ∷ r ∷ s ∷ rs)) x
    go true = refl
    go false = refl

-- the ranges of numbers with one more after them
pub ranges_more : (xs : List ℕ) (x : ℕ) → ranges_of (xs ++ x ∷ []) ≡ with_number (ranges_of xs) x
unfolding ranges_of
ranges_more [] x = refl
ranges_more (i ∷ is) x = ap (onto_ranges i) (ranges_more is x) ∙ front_and_back i x (ranges_of is)

-- a range after ranges of which the last is known
pub with_run_last : (rs : List Range) (r : Range) (k i h : ℕ) → length rs ≡ k + 1 → r ≡ get_or rs k r
    → with_run rs i h ≡ cond (eqb (r.high + 1) i) (set rs k (record { low = r.low; high = h })) (rs ++ record { low = i; high = h } ∷ [])
with_run_last [] r k i h long is = absurd (omega (arith, long))
with_run_last (s ∷ []) r zero i h long is = rw is refl
with_run_last (s ∷ []) r (suc k) i h long is = absurd (omega (arith, long))
with_run_last (s ∷ t ∷ rs) r zero i h long is = absurd (omega (arith, long))
with_run_last (s ∷ t ∷ rs) r (suc k) i h long is =
    ap (λ (u : List Range). s ∷ u) (with_run_last (t ∷ rs) r k i h (omega (arith, long)) is) ∙ go (eqb (r.high + 1) i)
  where
    go : (b : Bool) → s ∷ cond b (set (t ∷ rs) k (record { low = r.low; high = h })) ((t ∷ rs) ++ record { low = i; high = h } ∷ [])
        ≡ cond b (s ∷ set (t ∷ rs) k (record { low = r.low; high = h })) (s ∷ ((t ∷ rs) ++ record { low = i; high = h } ∷ []))
    go true = refl
    go false = refl

-- a range that is next to the last range
pub next_to_last : (rs : List Range) (r : Range) (n i h : ℕ) → length rs ≡ n → 0 < n → r ≡ get_or rs (n - 1) r → 0 < i → r.high ≡ i - 1
    → set rs (n - 1) (record { low = r.low; high = h }) ≡ with_run rs i h
next_to_last rs r n i h long some is above next =
    let whole : length rs ≡ (n - 1) + 1 = omega (arith, long, some) in
    let same : eqb (r.high + 1) i ≡ true = eq-eqb (r.high + 1) i (omega (arith, above, next)) in
    sym (with_run_last rs r (n - 1) i h whole is ∙ ap (λ b. cond b (set rs (n - 1) (record { low = r.low; high = h })) (rs ++ record { low = i; high = h } ∷ [])) same)

-- one that is not; the last range stays as it is
pub apart_from_last : (rs : List Range) (r : Range) (n i h : ℕ) → length rs ≡ n → 0 < n → r ≡ get_or rs (n - 1) r → (r.high + 1 ≡ i → ⊥)
    → set rs (n - 1) r ++ record { low = i; high = h } ∷ [] ≡ with_run rs i h
apart_from_last rs r n i h long some is apart =
    let whole : length rs ≡ (n - 1) + 1 = omega (arith, long, some) in
    ap (λ (qs : List Range). qs ++ record { low = i; high = h } ∷ []) (ap (set rs (n - 1)) is ∙ set-get_or rs (n - 1) r)
    ∙ sym (with_run_last rs r (n - 1) i h whole is ∙ ap (λ b. cond b (set rs (n - 1) (record { low = r.low; high = h })) (rs ++ record { low = i; high = h } ∷ [])) (ne_eqb (r.high + 1) i apart))

-- one after no ranges
pub behind_none : (rs : List Range) (i h : ℕ) → length rs ≤ 0 → rs ++ record { low = i; high = h } ∷ [] ≡ with_run rs i h
behind_none [] i h none = refl
behind_none (r ∷ rs) i h none = absurd (omega (arith, none))

-- ---- a number after a range

some_run : (rs : List Range) (i h : ℕ) → 0 < length (with_run rs i h)
some_run [] i h = omega arith
some_run (r ∷ []) i h = go (eqb (r.high + 1) i)
  where
    go : (b : Bool) → 0 < length (cond b (record { low = r.low; high = h } ∷ []) (r ∷ record { low = i; high = h } ∷ []))
    go true = omega arith
    go false = omega arith
some_run (r ∷ s ∷ rs) i h = omega arith

later_number : (r : Range) (rs : List Range) (x : ℕ) → 0 < length rs → with_number (r ∷ rs) x ≡ r ∷ with_number rs x
later_number r [] x some = absurd (omega (arith, some))
later_number r (s ∷ rs) x some = refl

-- the number that follows a range joins it
pub with_run_more : (rs : List Range) (i h : ℕ) → with_number (with_run rs i h) (h + 1) ≡ with_run rs i (h + 1)
with_run_more [] i h = ap (λ b. cond b (record { low = i; high = h + 1 } ∷ []) (record { low = i; high = h } ∷ record { low = h + 1; high = h + 1 } ∷ [])) (eq-eqb (h + 1) (h + 1) refl)
with_run_more (r ∷ []) i h = go (eqb (r.high + 1) i)
  where
    joins : (low : ℕ) → with_number (record { low = low; high = h } ∷ []) (h + 1) ≡ record { low = low; high = h + 1 } ∷ []
    joins low = ap (λ b. cond b (record { low = low; high = h + 1 } ∷ []) (record { low = low; high = h } ∷ record { low = h + 1; high = h + 1 } ∷ [])) (eq-eqb (h + 1) (h + 1) refl)

    go : (b : Bool) → with_number (cond b (record { low = r.low; high = h } ∷ []) (r ∷ record { low = i; high = h } ∷ [])) (h + 1)
        ≡ cond b (record { low = r.low; high = h + 1 } ∷ []) (r ∷ record { low = i; high = h + 1 } ∷ [])
    go true = joins r.low
    go false = ap (λ (qs : List Range). r ∷ qs) (joins i)
with_run_more (r ∷ s ∷ rs) i h =
    later_number r (with_run (s ∷ rs) i h) (h + 1) (some_run (s ∷ rs) i h) ∙ ap (λ (qs : List Range). r ∷ qs) (with_run_more (s ∷ rs) i h)
