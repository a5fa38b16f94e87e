-- Ranges in order of their low ends, of which each goes on to the greatest high end so far: what is
-- looked up in them.
use Rattle.std.proofs.Common.{◌≡◌, ℕ, ◌+◌, ◌-◌, ◌<◌, ◌≤◌, Bool, true, false, ◌||◌, ◌==◌, leb, List, [], ◌∷◌, ◌++◌, length, take, get_or, refl, ap, sym, ◌∙◌, ◌⊎◌, inl, inr, Some, arith}
use Rattle.std.proofs.Math.Bool.{or-false}
use Rattle.std.proofs.Math.Seq.{get_or-append_seam}
use Rattle.std.proofs.lemmas.Bool.{cases_lt, leb-true, ne_eqb}
use Rattle.std.proofs.lemmas.Bool.Decides.{nat_tests}
use Rattle.std.proofs.lemmas.List.{length-append, take_all, get_or_default}
use Rattle.std.proofs.lemmas.Option.{slice_get_within, get_or_from_slice_get}
use Rattle.std.proofs.lemmas.List.Folds.{list_any_at, list_any_more, list_any_none, list_any-append}
use Rattle.std.proofs.lemmas.List.Sorted.{IsNonDecreasingBy-push, length_permutation, list_any-IsPermutation}
use Rattle.std.specs.Prelude.{max, IsPermutation}
use Rattle.std.specs.Int.{is_in_range}
use Rattle.std.specs.List.{list_any, slice_get}
use Rattle.std.specs.List.Sorted.{IsNonDecreasingBy, IsPartitionPoint}
use Rattle.br_model.specs.Text.{is_empty}
use Rattle.br_model.specs.Bootstrap.{Range, admits}
use Rattle.br_match.specs.Groups.{IsRising}

-- the range contains the number
abbrev pub holds : ℕ → Range → Bool
holds n r = is_in_range r.low r.high n

in_range : (low high n : ℕ) → low ≤ n → n ≤ high → is_in_range low high n ≡ true
in_range low high n p q = grind (arith, nat_tests)

too_low : (low high n : ℕ) → n < low → is_in_range low high n ≡ false
too_low low high n p = grind (arith, nat_tests)

too_high : (low high n : ℕ) → high < n → is_in_range low high n ≡ false
too_high low high n p = grind (arith, nat_tests)

some_range : (rs : List Range) → 0 < length rs → is_empty rs ≡ false
some_range rs some = ne_eqb (length rs) 0 (λ e. omega (arith, e, some))

-- if no range begins at the number or before it
pub none_begun : (rs : List Range) (n : ℕ) → is_empty rs ≡ false → IsPartitionPoint (λ (r : Range). r.low ≤ n) (λ (r : Range). n < r.low) rs 0 → admits rs n ≡ false
none_begun rs n some point = rw some (list_any_none (holds n) rs (λ k d within. too_low (get_or rs k d).low (get_or rs k d).high n (point.1 k d (omega arith) within)))

-- if some begin there, the last of these decides
pub last_decides : (rs : List Range) (n count : ℕ) (last : Range) → is_empty rs ≡ false → IsRising rs → IsPartitionPoint (λ (r : Range). r.low ≤ n) (λ (r : Range). n < r.low) rs count
    → 0 < count → count ≤ length rs → last ≡ get_or rs (count - 1) last → admits rs n ≡ leb n last.high
last_decides rs n count last some rising point begun within is = rw some (go (leb n last.high) refl)
  where
    at : (get_or rs (count - 1) last).low ≤ n
    at = point.0 (count - 1) last (omega arith) (omega arith)

    go : (b : Bool) → leb n last.high ≡ b → list_any (holds n) rs ≡ b
    go true e =
        let high : n ≤ (get_or rs (count - 1) last).high = rw (sym is) (leb-true n last.high e) in
        list_any_at (holds n) rs (count - 1) last (omega arith) (in_range (get_or rs (count - 1) last).low (get_or rs (count - 1) last).high n at high)
    go false e = list_any_none (holds n) rs never
      where
        past : last.high < n
        past = grind (arith, nat_tests)

        never : (k : ℕ) (d : Range) → k < length rs → holds n (get_or rs k d) ≡ false
        never k d inside =
            elim (cases_lt k count) [
              | inl lt ↦
                  let below : (get_or rs k last).high ≤ (get_or rs (count - 1) last).high = rising.high k (count - 1) last (omega arith) (omega arith) in
                  let same : (get_or rs (count - 1) last).high ≡ last.high = ap (λ (r : Range). r.high) (sym is) in
                  rw (get_or_default rs k d last inside) (too_high (get_or rs k last).low (get_or rs k last).high n (omega (arith, below, same, past)))
              | inr le ↦ too_low (get_or rs k d).low (get_or rs k d).high n (point.1 k d le inside)
            ]

-- no number below the low end of the first is admitted
pub none_below : (rs : List Range) (r : Range) (n : ℕ) → IsRising rs → slice_get rs 0 ≡ Some r → n < r.low → admits rs n ≡ false
none_below rs r n rising at below =
    rw (some_range rs (slice_get_within rs 0 r at)) (list_any_none (holds n) rs (λ k d inside. too_low (get_or rs k d).low (get_or rs k d).high n (low k d inside)))
  where
    low : (k : ℕ) (d : Range) → k < length rs → n < (get_or rs k d).low
    low k d inside =
        let first : (get_or rs 0 d).low ≡ r.low = ap (λ (x : Range). x.low) (get_or_from_slice_get rs 0 r d at) in
        let rises : (get_or rs 0 d).low ≤ (get_or rs k d).low = rising.low 0 k d (omega arith) inside in
        omega (arith, first, rises)

-- and none above the high end of the last
pub none_above : (rs : List Range) (r : Range) (n : ℕ) → IsRising rs → slice_get rs (length rs - 1) ≡ Some r → r.high < n → admits rs n ≡ false
none_above rs r n rising at above =
    rw (some_range rs (omega (arith, slice_get_within rs (length rs - 1) r at))) (list_any_none (holds n) rs (λ k d inside. too_high (get_or rs k d).low (get_or rs k d).high n (high k d inside)))
  where
    high : (k : ℕ) (d : Range) → k < length rs → (get_or rs k d).high < n
    high k d inside =
        let last : (get_or rs (length rs - 1) d).high ≡ r.high = ap (λ (x : Range). x.high) (get_or_from_slice_get rs (length rs - 1) r d at) in
        let rises : (get_or rs k d).high ≤ (get_or rs (length rs - 1) d).high = rising.high k (length rs - 1) d (omega arith) (omega arith) in
        omega (arith, last, rises)

-- ---- as the ranges are made

-- what was made of the first ranges of a list, of which this is the greatest high end
pub record IsWidened (sorted : List Range) (i greatest : ℕ) (made : List Range) : Type 0 where
  pub count : length made ≡ i
  pub rising : IsRising made
  pub same : (n : ℕ) → list_any (holds n) made ≡ list_any (holds n) (take i sorted)
  pub none : length made ≡ 0 → greatest ≡ 0
  pub last_high : (d : Range) → 0 < length made → (get_or made (length made - 1) d).high ≡ greatest
  pub last_low : (d : Range) → 0 < length made → (get_or made (length made - 1) d).low ≡ (get_or sorted (i - 1) d).low

-- one more range, which goes on to the greatest high end
pub widened_more : (sorted made : List Range) (i greatest : ℕ) (r : Range) → IsNonDecreasingBy (λ (x : Range). x.low) sorted → i < length sorted → r ≡ get_or sorted i r
    → IsWidened sorted i greatest made → IsWidened sorted (i + 1) (max r.high greatest) (made ++ record { low = r.low; high = max r.high greatest } ∷ [])
widened_more sorted made i greatest r ascends inside is w = record {
  count = omega (arith, longer, w.count);
  rising = record {
    low = IsNonDecreasingBy-push (λ (x : Range). x.low) made new w.rising.low (λ d some. low d some);
    high = IsNonDecreasingBy-push (λ (x : Range). x.high) made new w.rising.high (λ d some. let e = w.last_high d some in omega (arith, e));
  };
  same = λ n. list_any-append (holds n) made (new ∷ []) ∙ joined n ∙ sym (list_any_more (holds n) sorted i r inside);
  none = λ none. absurd (omega (arith, longer, none));
  last_high = λ d some. ap (λ (x : Range). x.high) (last d);
  last_low = λ d some. let e : (i + 1) - 1 ≡ i = omega arith in rw (last d, e, sym (at d)) refl;
}
  where
    new : Range
    new = record { low = r.low; high = max r.high greatest }

    longer : length (made ++ new ∷ []) ≡ length made + 1
    longer = length-append made (new ∷ [])

    at : (d : Range) → r ≡ get_or sorted i d
    at d = is ∙ get_or_default sorted i r d inside

    last : (d : Range) → get_or (made ++ new ∷ []) (length (made ++ new ∷ []) - 1) d ≡ new
    last d = let e : length (made ++ new ∷ []) - 1 ≡ length made = omega (arith, longer) in rw e (get_or-append_seam made new [] d)

    low : (d : Range) → 0 < length made → (get_or made (length made - 1) d).low ≤ r.low
    low d some =
        let before = w.last_low d some in
        let next : (get_or sorted (i - 1) d).low ≤ (get_or sorted i d).low = ascends (i - 1) i d (omega arith) inside in
        let here = ap (λ (x : Range). x.low) (at d) in
        omega (arith, before, next, here)

    joined : (n : ℕ) → (list_any (holds n) made || (holds n new || false)) ≡ (list_any (holds n) (take i sorted) || holds n (get_or sorted i r))
    joined n = rw (w.same n, sym is) (go (list_any (holds n) (take i sorted)) refl)
      where
        go : (b : Bool) → list_any (holds n) (take i sorted) ≡ b → (b || (holds n new || false)) ≡ (b || holds n r)
        go true e = refl
        go false e = or-false (holds n new) ∙ wider (cases_lt n r.low)
          where
            wider : (n < r.low) ⊎ (r.low ≤ n) → holds n new ≡ holds n r
            wider (inl lt) = too_low r.low (max r.high greatest) n lt ∙ sym (too_low r.low r.high n lt)
            wider (inr le) = further (cases_lt r.high n)
              where
                further : (r.high < n) ⊎ (n ≤ r.high) → holds n new ≡ holds n r
                further (inr within) = in_range r.low (max r.high greatest) n le (omega arith) ∙ sym (in_range r.low r.high n le within)
                further (inl past) = past_all (cases_lt greatest n)
                  where
                    past_all : (greatest < n) ⊎ (n ≤ greatest) → holds n new ≡ holds n r
                    past_all (inl lt) = too_high r.low (max r.high greatest) n (omega arith) ∙ sym (too_high r.low r.high n past)
                    past_all (inr within) = absurd (found (cases_lt 0 (length made)))
                      where
                        found : (0 < length made) ⊎ (length made ≤ 0) → ⊥
                        found (inr empty) = let z = w.none (omega arith) in absurd (omega (arith, z, within, past))
                        found (inl some) =
                            let x : Range = get_or made (length made - 1) r in
                            let high = w.last_high r some in
                            let below = low r some in
                            let yes_there : list_any (holds n) made ≡ true = list_any_at (holds n) made (length made - 1) r (omega arith) (in_range x.low x.high n (omega (arith, below, le)) (omega (arith, high, within))) in
                            let no_there : list_any (holds n) made ≡ false = w.same n ∙ e in
                            absurd cc

same_count : (i n : ℕ) → i ≤ n → n ≤ i → i ≡ n
same_count i n le ge = omega arith

-- the whole list
pub widened_all : (sorted made : List Range) (i greatest n : ℕ) → i ≤ length sorted → length sorted ≤ i → IsWidened sorted i greatest made → admits made n ≡ admits sorted n
widened_all sorted made i greatest n inside all w =
    let empty : is_empty made ≡ is_empty sorted = ap (λ (k : ℕ). k == 0) (w.count ∙ same_count i (length sorted) inside all) in
    let some : list_any (holds n) made ≡ list_any (holds n) sorted = w.same n ∙ ap (λ (rs : List Range). list_any (holds n) rs) (take_all i sorted all) in
    rw (empty, some) refl

-- ranges in another order
pub admits_in_order : (rs sorted : List Range) (n : ℕ) → IsPermutation rs sorted → admits sorted n ≡ admits rs n
admits_in_order rs sorted n p =
    let empty : is_empty sorted ≡ is_empty rs = ap (λ (k : ℕ). k == 0) (length_permutation rs sorted p) in
    rw (empty, sym (list_any-IsPermutation (holds n) rs sorted p)) refl
