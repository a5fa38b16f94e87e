-- Places of lists.
use Rattle.std.proofs.Common.{◌≡◌, ◌⊎◌, ℕ, zero, suc, ◌+◌, ◌<◌, List, [], ◌∷◌, ◌++◌, length, take, drop, set, Some, sym, ap, subst, ◌∙◌, refl, inl, inr, arith, add-one}
use Rattle.std.specs.Prelude.{Contains, slice_get}
use Rattle.br_model.proofs.ListLaws.{first_in, first_or_later, later_in, none_in}

-- ---- lists with another element at a place

-- the new element is at the place
pub set_same : {X : Type 0} (xs : List X) (i : ℕ) (x : X) → i < length xs → slice_get (set xs i x) i ≡ Some x
set_same [] i x lt = absurd (omega arith)
set_same (y ∷ ys) zero x lt = refl
set_same (y ∷ ys) (suc i) x lt = set_same ys i x (omega arith)

-- any other place has what it had
pub set_other : {X : Type 0} (xs : List X) (i j : ℕ) (x : X) → (j ≡ i → ⊥) → slice_get (set xs i x) j ≡ slice_get xs j
set_other [] i j x apart = refl
set_other (y ∷ ys) zero zero x apart = absurd (apart refl)
set_other (y ∷ ys) zero (suc j) x apart = refl
set_other (y ∷ ys) (suc i) zero x apart = refl
set_other (y ∷ ys) (suc i) (suc j) x apart = set_other ys i j x (λ e. apart (ap suc e))

-- two numbers are one, or are not
pub same_or_not : (m n : ℕ) → (m ≡ n) ⊎ (m ≡ n → ⊥)
same_or_not zero zero = inl refl
same_or_not zero (suc n) = inr (λ e. omega (arith, e))
same_or_not (suc m) zero = inr (λ e. omega (arith, e))
same_or_not (suc m) (suc n) =
    elim (same_or_not m n) [
      | inl e ↦ inl (ap suc e)
      | inr apart ↦ inr (λ e. apart (omega (arith, e)))
    ]

-- ---- lists with one more element

-- an element at the end changes no place before it
pub get_before : {X : Type 0} (xs : List X) (x : X) (i : ℕ) → i < length xs → slice_get (xs ++ x ∷ []) i ≡ slice_get xs i
get_before [] x i lt = absurd (omega arith)
get_before (y ∷ ys) x zero lt = refl
get_before (y ∷ ys) x (suc i) lt = get_before ys x i (omega arith)

-- the element at the end is at the place after all others
pub get_last : {X : Type 0} (xs : List X) (x : X) → slice_get (xs ++ x ∷ []) (length xs) ≡ Some x
get_last [] x = refl
get_last (y ∷ ys) x = get_last ys x

-- ---- lists without the element at a place

-- the list without what is at a place
abbrev pub without : {X : Type 0} → ℕ → List X → List X
without n xs = take n xs ++ drop (n + 1) xs

-- the first element stays if one after it is left out
without_later : {X : Type 0} (n : ℕ) (x : X) (xs : List X) → without (suc n) (x ∷ xs) ≡ x ∷ without n xs
without_later n x xs = let more : suc n + 1 ≡ suc (n + 1) = omega arith in ap (λ (k : ℕ). (x ∷ take n xs) ++ drop k (x ∷ xs)) more

-- an element is the one at a place, or is still there without it
pub there_or_left : {X : Type 0} (xs : List X) (n : ℕ) (x y : X) → slice_get xs n ≡ Some x → Contains xs y → (x ≡ y) ⊎ Contains (without n xs) y
there_or_left [] n x y e among = absurd cc
there_or_left {X} (z ∷ zs) zero x y e among =
    let is : z ≡ x = cc in
    elim (first_or_later z zs y among) [
      | inl same ↦ inl (sym is ∙ same)
      | inr later ↦ inr (subst (λ (k : ℕ). Contains (drop k (z ∷ zs)) y) (sym (add-one 0)) later)
    ]
there_or_left {X} (z ∷ zs) (suc n) x y e among =
    elim (first_or_later z zs y among) [
      | inl same ↦ inr (subst (λ (l : List X). Contains l y) (sym (without_later n z zs)) (first_in z (without n zs) y same))
      | inr later ↦
          elim (there_or_left zs n x y e later) [
            | inl here ↦ inl here
            | inr left ↦ inr (subst (λ (l : List X). Contains l y) (sym (without_later n z zs)) (later_in z (without n zs) y left))
          ]
    ]

-- what is there without the element at a place was there
pub was_there : {X : Type 0} (xs : List X) (n : ℕ) (y : X) → Contains (without n xs) y → Contains xs y
was_there [] zero y among = absurd (none_in y (subst (λ (k : ℕ). Contains (drop k []) y) (add-one 0) among))
was_there [] (suc n) y among = let more : suc n + 1 ≡ suc (n + 1) = omega arith in absurd (none_in y (subst (λ (k : ℕ). Contains (drop k []) y) more among))
was_there (z ∷ zs) zero y among = later_in z zs y (subst (λ (k : ℕ). Contains (drop k (z ∷ zs)) y) (add-one 0) among)
was_there {X} (z ∷ zs) (suc n) y among =
    elim (first_or_later z (without n zs) y (subst (λ (l : List X). Contains l y) (without_later n z zs) among)) [
      | inl same ↦ first_in z zs y same
      | inr later ↦ later_in z zs y (was_there zs n y later)
    ]
