-- Lists in the order of a rank: their last element, and two that have the same elements.
use Rattle.std.proofs.Common.{◌≡◌, ℕ, Bool, true, false, List, [], ◌∷◌, Option, Some, None, refl, sym, ap, subst, ◌∙◌, inl, inr, ◌⊎◌}
use Rattle.std.proofs.lemmas.Bool.{both_ways}
use Rattle.std.specs.Prelude.{Contains}
use Rattle.std.specs.List.{AllByRecursion, last_or}
use Rattle.std.specs.Cmp.{IsStrictWeakOrder}
use Rattle.std.specs.Cmp.Lexicographic.{nat_list_cmp_total}
use Rattle.std.specs.Ordering.{is_lt}
use Rattle.std.specs.declared.cmp.Ordering.TheVariants.{Less}
use Rattle.br_model.specs.Order.{in_order}
use Rattle.br_model.proofs.ListLaws.{first_in, later_in, first_or_later, none_in, of_each, from_last}
use Rattle.br_model.proofs.OrderLaws.{rank_cmp, not_below_itself, in_order_from, in_order_has_rank, in_order_rises}
use Rattle.br_model.proofs.PairLaws.{EachPair}

-- nothing comes after itself
pub never_itself : {X : Type 0} (lt : X → X → Bool) → IsStrictWeakOrder lt → (x : X) → lt x x ≡ false
never_itself lt o x = go (lt x x) refl
  where
    go : (b : Bool) → lt x x ≡ b → lt x x ≡ false
    go true is = o.one_way x x is
    go false is = is

-- of two ranks at most one is below the other
pub below_one_way : (p q : List ℕ) → rank_cmp p q ≡ Less → rank_cmp q p ≡ Less → ⊥
below_one_way p q a b = not_below_itself p (nat_list_cmp_total.trans p q p a b)

-- ---- the last element

-- of a list in which a relation holds of each pair, each element is the last one or related to it
behind_last : {X : Type 0} (R : X → X → Type 0) (x : X) (xs : List X) (z y : X) → AllByRecursion (R x) xs → EachPair R xs → last_or (Some x) xs ≡ Some z → (x ≡ y) ⊎ Contains xs y
    → (y ≡ z) ⊎ R y z
behind_last R x [] z y all pairs e (inl same) = let last : x ≡ z = cc in inl (sym same ∙ last)
behind_last R x [] z y all pairs e (inr inside) = absurd (none_in y inside)
behind_last R x (w ∷ ws) z y all pairs e (inl same) = inr (subst (λ t. R t z) same (of_each (R x) (w ∷ ws) z all (from_last (w ∷ ws) z e)))
behind_last R x (w ∷ ws) z y all pairs e (inr inside) = behind_last R w ws z y pairs.0 pairs.1 e (first_or_later w ws y inside)

last_of_pairs : {X : Type 0} (R : X → X → Type 0) (xs : List X) (z y : X) → EachPair R xs → last_or None xs ≡ Some z → Contains xs y → (y ≡ z) ⊎ R y z
last_of_pairs R [] z y pairs e inside = absurd (none_in y inside)
last_of_pairs R (x ∷ xs) z y pairs e inside = behind_last R x xs z y pairs.0 pairs.1 e (first_or_later x xs y inside)

last_is_some : {X : Type 0} (x : X) (xs : List X) → last_or (Some x) xs ≡ None → ⊥
last_is_some x [] e = absurd cc
last_is_some x (y ∷ ys) e = last_is_some y ys e

last_of_some : {X : Type 0} (xs : List X) (y : X) → Contains xs y → last_or None xs ≡ None → ⊥
last_of_some [] y inside e = none_in y inside
last_of_some (x ∷ xs) y inside e = last_is_some x xs e

-- the last element in order of rank, if x is one of the list and none is above it: it has
-- the rank of x
pub record IsLastLike {X : Type 0} (rank : X → List ℕ) (xs : List X) (x : X) : Type 0 where
  pub element : X
  pub last : last_or None (in_order rank xs) ≡ Some element
  pub among : Contains xs element
  pub same : rank element ≡ rank x

pub last_like : {X : Type 0} (rank : X → List ℕ) (xs : List X) (x : X) → Contains xs x → AllByRecursion (λ y. is_lt (rank_cmp (rank x) (rank y)) ≡ false) xs → IsLastLike rank xs x
last_like {X} rank xs x inside none = go (last_or None (in_order rank xs)) refl
  where
    like : (y : X) × Contains (in_order rank xs) y × (rank y ≡ rank x)
    like = in_order_has_rank rank xs x inside

    go : (o : Option X) → last_or None (in_order rank xs) ≡ o → IsLastLike rank xs x
    go None is = absurd (last_of_some (in_order rank xs) like.0 like.1 is)
    go (Some z) is =
        let among : Contains xs z = in_order_from rank xs z (from_last (in_order rank xs) z is) in
        elim (last_of_pairs (λ a b. rank_cmp (rank a) (rank b) ≡ Less) (in_order rank xs) z like.0 (in_order_rises rank xs) is like.1) [
          | inl same ↦ record { element = z; last = is; among = among; same = ap rank (sym same) ∙ like.2 }
          | inr less ↦
              let above : rank_cmp (rank x) (rank z) ≡ Less = subst (λ (r : List ℕ). rank_cmp r (rank z) ≡ Less) like.2 less in
              absurd (both_ways (is_lt (rank_cmp (rank x) (rank z))) (of_each (λ y. is_lt (rank_cmp (rank x) (rank y)) ≡ false) xs z none among) (ap is_lt above))
        ]

-- ---- two lists of the same elements

-- two lists of the same elements in which an order holds of each pair are one
pub same_rising : {X : Type 0} (R : X → X → Type 0) → ((x y : X) → R x y → R y x → ⊥) → (xs ys : List X) → EachPair R xs → EachPair R ys
    → ((z : X) → Contains xs z → Contains ys z) → ((z : X) → Contains ys z → Contains xs z) → xs ≡ ys
same_rising R apart [] [] p q f g = refl
same_rising R apart [] (y ∷ ys) p q f g = absurd (none_in y (g y (first_in y ys y refl)))
same_rising R apart (x ∷ xs) [] p q f g = absurd (none_in x (f x (first_in x xs x refl)))
same_rising {X} R apart (x ∷ xs) (y ∷ ys) p q f g =
    let same : x ≡ y =
    elim (first_or_later y ys x (f x (first_in x xs x refl))) [
      | inl e ↦ sym e
      | inr there ↦ elim (first_or_later x xs y (g y (first_in y ys y refl))) [
        | inl e ↦ e
        | inr here ↦ absurd (apart x y (of_each (R x) xs y p.0 here) (of_each (R y) ys x q.0 there))
      ]
    ] in
    let into : (z : X) → Contains xs z → Contains ys z = λ z inside.
    elim (first_or_later y ys z (f z (later_in x xs z inside))) [
      | inl e ↦ let loop : R x x = subst (R x) (sym e ∙ sym same) (of_each (R x) xs z p.0 inside) in absurd (apart x x loop loop)
      | inr there ↦ there
    ] in
    let back : (z : X) → Contains ys z → Contains xs z = λ z inside.
    elim (first_or_later x xs z (g z (later_in y ys z inside))) [
      | inl e ↦ let loop : R y y = subst (R y) (sym e ∙ same) (of_each (R y) ys z q.0 inside) in absurd (apart y y loop loop)
      | inr here ↦ here
    ] in
    ap (λ z. z ∷ xs) same ∙ ap (λ zs. y ∷ zs) (same_rising R apart xs ys p.1 q.1 into back)
