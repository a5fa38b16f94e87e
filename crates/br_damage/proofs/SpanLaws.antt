-- Which places some spans have.
use Rattle.std.proofs.Common.{◌≡◌, ℕ, zero, suc, ◌<◌, ◌≤◌, Bool, true, false, ◌&&◌, ◌||◌, ltb, leb, List, [], ◌∷◌, length, take, drop, get_or, refl, sym, ap, ◌∙◌, arith}
use Rattle.std.proofs.lemmas.Bool.Decides.{nat_tests}
use Rattle.std.specs.Prelude.{max}
use Rattle.std.specs.List.Sorted.{IsNonDecreasingBy}
use Rattle.br_damage.specs.LostFiles.{has_place, is_within, reaches_from}
use Rattle.br_damage.specs.declared.lost_files.Span.{Span}

-- ---- spans that end before a place

ends_before : (p low end m : ℕ) → max m end ≤ p → (leb low p && ltb p end) ≡ false
ends_before p low end m le = let above : end ≤ p = omega (arith, le) in grind (arith, nat_tests)

-- spans at the front that end at the place or before it do not have it
pub passed_have_none : (p m : ℕ) (ss : List Span) (i : ℕ) → i ≤ length ss → ((k d : ℕ) → k < i → get_or (reaches_from m ss) k d ≤ p) → has_place ss p ≡ has_place (drop i ss) p
passed_have_none p m ss zero le h = refl
passed_have_none p m [] (suc i) le h = refl
passed_have_none p m (s ∷ rest) (suc i) le h =
    ap (λ b. b || has_place rest p) (ends_before p s.low s.end m (h 0 0 (omega arith)))
    ∙ passed_have_none p (max m s.end) rest i (omega (arith, le)) (λ k d lt. h (suc k) d (omega (arith, lt)))

pub as_many : (m : ℕ) (ss : List Span) → length (reaches_from m ss) ≡ length ss
as_many m [] = refl
as_many m (s ∷ rest) = ap suc (as_many (max m s.end) rest)

at_least : (m : ℕ) (ss : List Span) (j d : ℕ) → j < length (reaches_from m ss) → m ≤ get_or (reaches_from m ss) j d
at_least m [] j d lt = absurd (omega (arith, lt))
at_least m (s ∷ rest) zero d lt = omega arith
at_least m (s ∷ rest) (suc j) d lt = let after = at_least (max m s.end) rest j d (omega (arith, lt)) in omega (arith, after)

pub reaches_rise : (m : ℕ) (ss : List Span) → IsNonDecreasingBy (λ (r : ℕ). r) (reaches_from m ss)
reaches_rise m [] i j d le lt = absurd (omega (arith, lt))
reaches_rise m (s ∷ rest) zero zero d le lt = omega arith
reaches_rise m (s ∷ rest) zero (suc j) d le lt = at_least (max m s.end) rest j d (omega (arith, lt))
reaches_rise m (s ∷ rest) (suc i) zero d le lt = absurd (omega (arith, le))
reaches_rise m (s ∷ rest) (suc i) (suc j) d le lt = reaches_rise (max m s.end) rest i j d (omega (arith, le)) (omega (arith, lt))

-- ---- spans that begin after a place

begins_after : (p low end place : ℕ) → p < place → place ≤ low → (leb low p && ltb p end) ≡ false
begins_after p low end place lt le = let above : p < low = omega (arith, lt, le) in grind (arith, nat_tests)

none_have : (p place : ℕ) (ss : List Span) → p < place → ((k : ℕ) (d : Span) → k < length ss → place ≤ (get_or ss k d).low) → has_place ss p ≡ false
none_have p place [] lt h = refl
none_have p place (s ∷ rest) lt h =
    ap (λ b. b || has_place rest p) (begins_after p s.low s.end place lt (h 0 s (omega arith)))
    ∙ none_have p place rest lt (λ k d l. h (suc k) d (omega (arith, l)))

-- spans at the end that begin at the place or after it have none before it
pub later_have_none : (p place : ℕ) (ss : List Span) (i : ℕ) → p < place → ((k : ℕ) (d : Span) → i ≤ k → k < length ss → place ≤ (get_or ss k d).low)
    → has_place (take i ss) p ≡ has_place ss p
later_have_none p place [] zero lt h = refl
later_have_none p place [] (suc i) lt h = refl
later_have_none p place (s ∷ rest) zero lt h = sym (none_have p place (s ∷ rest) lt (λ k d l. h k d (omega arith) l))
later_have_none p place (s ∷ rest) (suc i) lt h =
    ap (λ b. is_within p s || b) (later_have_none p place rest i lt (λ k d le l. h (suc k) d (omega (arith, le)) (omega (arith, l))))

-- ---- spans in order

from_first : (low end p n : ℕ) → n ≤ low → (leb low p && ltb p end) ≡ true → n ≤ p
from_first low end p n le e = grind (arith, nat_tests)

-- a place in one of some spans is not before their first places
pub any_from : (n p : ℕ) (ss : List Span) → ((j : ℕ) (d : Span) → j < length ss → n ≤ (get_or ss j d).low) → has_place ss p ≡ true → n ≤ p
any_from n p [] h e = absurd cc
any_from n p (s ∷ ss) h e = go (is_within p s) refl e (any_from n p ss (λ j d lt. h (suc j) d (omega (arith, lt))))
  where
    go : (b : Bool) → is_within p s ≡ b → (b || has_place ss p) ≡ true → (has_place ss p ≡ true → n ≤ p) → n ≤ p
    go true is f rest = from_first s.low s.end p n (h 0 s (omega arith)) is
    go false is f rest = rest f
