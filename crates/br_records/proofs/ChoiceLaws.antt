-- The records of a stream: none, one, or more.
use Rattle.std.proofs.Common.{◌≡◌, Bool, true, false, cond, List, [], ◌∷◌, length, Some, None, refl, ap, arith}
use Rattle.std.specs.Prelude.{filter, find}

module _ {X : Type 0} (p : X → Bool) where
  pub none_in : (xs : List X) → find p xs ≡ None → filter p xs ≡ []
  none_in [] e = refl
  none_in (x ∷ xs) e = go (p x) e (none_in xs)
    where
      go : (b : Bool) → cond b (Some x) (find p xs) ≡ None → (find p xs ≡ None → filter p xs ≡ []) → cond b (x ∷ filter p xs) (filter p xs) ≡ []
      go true h rest = absurd cc
      go false h rest = rest h

  -- the first, and some more
  pub first_in : (xs : List X) (first : X) → find p xs ≡ Some first → (more : List X) × (filter p xs ≡ first ∷ more)
  first_in [] first e = absurd cc
  first_in (x ∷ xs) first e = go (p x) e (first_in xs first)
    where
      go : (b : Bool) → cond b (Some x) (find p xs) ≡ Some first → (find p xs ≡ Some first → (more : List X) × (filter p xs ≡ first ∷ more)) → (more : List X) × (cond b (x ∷ filter p xs) (filter p xs) ≡ first ∷ more)
      go true h rest = let same : x ≡ first = cc in (filter p xs, ap (λ (y : X). y ∷ filter p xs) same)
      go false h rest = rest h

  pub one_in : (xs : List X) (first : X) → find p xs ≡ Some first → length (filter p xs) ≡ 1 → filter p xs ≡ first ∷ []
  one_in xs first e one = go (first_in xs first e)
    where
      go : (more : List X) × (filter p xs ≡ first ∷ more) → filter p xs ≡ first ∷ []
      go ([], is) = is
      go (y ∷ ys, is) = absurd (omega (arith, ap length is, one))

  pub more_in : (xs : List X) (first : X) → find p xs ≡ Some first → (length (filter p xs) ≡ 1 → ⊥) → (second : X) × (more : List X) × (filter p xs ≡ first ∷ second ∷ more)
  more_in xs first e other = go (first_in xs first e)
    where
      go : (more : List X) × (filter p xs ≡ first ∷ more) → (second : X) × (more : List X) × (filter p xs ≡ first ∷ second ∷ more)
      go ([], is) = absurd (other (ap length is))
      go (y ∷ ys, is) = (y, ys, is)
