-- Parts of files that are in order.
use Rattle.std.proofs.Common.{◌≡◌, ℕ, zero, suc, ◌<◌, ◌≤◌, Bool, true, false, not, ◌&&◌, ◌||◌, eqb, ltb, leb, List, [], ◌∷◌, length, get_or, take, drop, filter, refl, ap, ◌∙◌, ◌⊎◌, inl, inr, arith}
use Rattle.std.proofs.lemmas.Bool.{eqb-true, eqb-false, ltb-true, ltb-false}
use Rattle.std.proofs.lemmas.Bool.Decides.{nat_tests}
use Rattle.std.proofs.lemmas.List.Elements.{Contains-get_or}
use Rattle.std.specs.List.Sorted.{IsStrictlySortedBy, IsPartitionedBy}
use Rattle.std.specs.Cmp.{nat_cmp_is}
use Rattle.std.specs.FinMap.{nat_cmp-IsAntisymmetric}
use Rattle.std.specs.Ordering.{nat_cmp, ordering_then}
use Rattle.std.specs.declared.cmp.Ordering.{Ordering}
use Rattle.std.specs.declared.cmp.Ordering.TheVariants.{Less, Equal, Greater}
use Rattle.br_model.specs.Job.{Span}
use Rattle.br_model.proofs.ListLaws.{of_each, filter_twice}
use Rattle.br_plan.specs.Selected.{FileOf, file_cmp}
use Rattle.br_plan.specs.Parts.{Rise, is_before, is_up_to, is_within}

-- ---- the order

pub lower : (a b : ℕ) → nat_cmp a b ≡ Less → a < b
lower a b e = go (ltb a b) refl
  where
    go : (t : Bool) → ltb a b ≡ t → a < b
    go true is = ltb-true a b is
    go false is = absurd (other (eqb a b) refl)
      where
        other : (t : Bool) → eqb a b ≡ t → ⊥
        other true same = let tie : Equal ≡ nat_cmp a b = nat_cmp_is a b Equal (eqb-true a b same) in absurd cc
        other false apart =
            let ge : b ≤ a = ltb-false a b is in
            let ne = eqb-false a b apart in
            let above : Greater ≡ nat_cmp a b = nat_cmp_is a b Greater (omega (arith, ge, ne)) in
            absurd cc

-- of two files in order the first has the lower job, or the same job and the lower index
pub file_less : (a b : FileOf) → file_cmp a b ≡ Less → (a.0 < b.0) ⊎ ((a.0 ≡ b.0) × (a.1 < b.1))
file_less a b e = go (nat_cmp a.0 b.0) refl e
  where
    go : (o : Ordering) → nat_cmp a.0 b.0 ≡ o → ordering_then o (nat_cmp a.1 b.1) ≡ Less → (a.0 < b.0) ⊎ ((a.0 ≡ b.0) × (a.1 < b.1))
    go Less is f = inl (lower a.0 b.0 is)
    go Equal is f = inr (nat_cmp-IsAntisymmetric a.0 b.0 is, lower a.1 b.1 f)
    go Greater is f = absurd cc

-- ---- where a test changes

-- in a rising list a test that holds of each file before one of which it holds parts the list
pub parted : (p : FileOf → Bool) → ((a b : FileOf) → file_cmp a b ≡ Less → p b ≡ true → p a ≡ true) → (files : List FileOf) → Rise files → IsPartitionedBy p files
unfolding IsStrictlySortedBy
parted p down [] rise i j d le lt e = absurd (omega (arith, lt))
parted p down (f ∷ fs) rise zero zero d le lt e = e
parted p down (f ∷ fs) rise zero (suc j) d le lt e =
    down f (get_or fs j d) (of_each (λ g. file_cmp f g ≡ Less) fs (get_or fs j d) rise.0 (Contains-get_or fs j d (omega (arith, lt)))) e
parted p down (f ∷ fs) rise (suc i) zero d le lt e = absurd (omega (arith, le))
parted p down (f ∷ fs) rise (suc i) (suc j) d le lt e = parted p down fs rise.1 i j d (omega (arith, le)) (omega (arith, lt)) e

-- what comes before and after the place where a test changes
pub parts_at : {X : Type 0} (p : X → Bool) (xs : List X) (i : ℕ) → ((k : ℕ) (d : X) → k < i → p (get_or xs k d) ≡ true)
    → ((k : ℕ) (d : X) → i ≤ k → k < length xs → p (get_or xs k d) ≡ false) → i ≤ length xs
    → (take i xs ≡ filter p xs) × (drop i xs ≡ filter (λ x. not (p x)) xs)
parts_at p [] zero before behind le = (refl, refl)
parts_at p [] (suc i) before behind le = absurd (omega (arith, le))
parts_at {X} p (x ∷ xs) zero before behind le =
    let fails : p x ≡ false = behind 0 x (omega arith) (omega arith) in
    let rest = parts_at p xs zero (λ k d lt. absurd (omega (arith, lt))) (λ k d ge lt. behind (suc k) d (omega arith) (omega (arith, lt))) (omega arith) in
    rw fails (rest.0, ap (λ (ys : List X). x ∷ ys) rest.1)
parts_at {X} p (x ∷ xs) (suc i) before behind le =
    let holds : p x ≡ true = before 0 x (omega arith) in
    let rest = parts_at p xs i (λ k d lt. before (suc k) d (omega (arith, lt))) (λ k d ge lt. behind (suc k) d (omega (arith, ge)) (omega (arith, lt))) (omega (arith, le)) in
    rw holds (ap (λ (ys : List X). x ∷ ys) rest.0, rest.1)

-- ---- the tests of a part

before_numbers : (a0 a1 b0 b1 job first : ℕ) → (a0 < b0) ⊎ ((a0 ≡ b0) × (a1 < b1)) → (ltb b0 job || eqb b0 job && ltb b1 first) ≡ true → (ltb a0 job || eqb a0 job && ltb a1 first) ≡ true
before_numbers a0 a1 b0 b1 job first (inl lt) e = grind (arith, nat_tests)
before_numbers a0 a1 b0 b1 job first (inr (same, lt)) e = grind (arith, nat_tests)

-- what is before a file that is before another is before that one
pub before_down : (job first : ℕ) (a b : FileOf) → file_cmp a b ≡ Less → is_before job first b ≡ true → is_before job first a ≡ true
before_down job first a b less e = before_numbers a.0 a.1 b.0 b.1 job first (file_less a b less) e

up_to_numbers : (a0 a1 b0 b1 job last : ℕ) → (a0 < b0) ⊎ ((a0 ≡ b0) × (a1 < b1)) → (ltb b0 job || eqb b0 job && leb b1 last) ≡ true → (ltb a0 job || eqb a0 job && leb a1 last) ≡ true
up_to_numbers a0 a1 b0 b1 job last (inl lt) e = grind (arith, nat_tests)
up_to_numbers a0 a1 b0 b1 job last (inr (same, lt)) e = grind (arith, nat_tests)

pub up_to_down : (job last : ℕ) (a b : FileOf) → file_cmp a b ≡ Less → is_up_to job last b ≡ true → is_up_to job last a ≡ true
up_to_down job last a b less e = up_to_numbers a.0 a.1 b.0 b.1 job last (file_less a b less) e

within_numbers : (f0 f1 job first last : ℕ) → (not (ltb f0 job || eqb f0 job && ltb f1 first) && (ltb f0 job || eqb f0 job && leb f1 last)) ≡ (eqb f0 job && (leb first f1 && leb f1 last))
within_numbers f0 f1 job first last = grind (arith, nat_tests)

-- what is not before the first file of a span and not after its last one is within it
pub within_is : (job : ℕ) (s : Span) (files : List FileOf) → filter (is_up_to job s.last) (filter (λ f. not (is_before job s.first f)) files) ≡ filter (is_within job s) files
within_is job s files =
    filter_twice (λ f. not (is_before job s.first f)) (is_up_to job s.last) files
    ∙ ap (λ (p : FileOf → Bool). filter p files) (λ i f. within_numbers f.0 f.1 job s.first s.last i)
