-- What holds of each element of a list and each later one.
use Rattle.std.proofs.Common.{◌≡◌, ℕ, zero, suc, ◌+◌, ◌<◌, Bool, true, false, not, ◌&&◌, cond, List, [], ◌∷◌, ◌++◌, map, filter, Option, Some, None, refl, ap, subst, ◌∙◌, inl, inr, arith}
use Rattle.std.proofs.lemmas.Bool.{and_parts, and_from, not-true, not_from_false, both_ways, cases_order, false_from_ne_true}
use Rattle.std.specs.Prelude.{Contains, slice_get, find, flat_map, filter_map, option_map}
use Rattle.std.specs.List.{AllByRecursion, list_any, enumerate_from, cons_option}
use Rattle.br_model.specs.Job.{no_pair}
use Rattle.br_model.proofs.ListLaws.{all_weaker, all_filter, all_append, all_map, all_flat_map, all_given, all_at, place_of, none_pass, holds_of_none, all_numbered, numbers_are_places}

-- the relation holds of each element and each later one
abbrev pub EachPair : {X : Type 0} → (X → X → Type 0) → List X → Type 0
EachPair R [] = Unit {0}
EachPair R (x ∷ xs) = AllByRecursion (R x) xs × EachPair R xs

-- ---- each element and each later one

-- what holds of pairs and implies another relation gives that of pairs
pub pairs_weaker : {X : Type 0} (R S : X → X → Type 0) → ((x y : X) → R x y → S x y) → (xs : List X) → EachPair R xs → EachPair S xs
pairs_weaker R S f [] h = tt
pairs_weaker R S f (x ∷ xs) h = (all_weaker (R x) (S x) (f x) xs h.0, pairs_weaker R S f xs h.1)

-- pairs of elements of each of which a fact holds
pub pairs_with : {X : Type 0} (P : X → Type 0) (R S : X → X → Type 0) → ((x y : X) → P x → P y → R x y → S x y) → (xs : List X) → AllByRecursion P xs → EachPair R xs → EachPair S xs
pairs_with P R S f [] all h = tt
pairs_with {X} P R S f (x ∷ xs) all h = (go xs all.1 h.0, pairs_with P R S f xs all.1 h.1)
  where
    go : (ys : List X) → AllByRecursion P ys → AllByRecursion (R x) ys → AllByRecursion (S x) ys
    go [] a b = tt
    go (y ∷ ys) a b = (f x y all.0 a.0 b.0, go ys a.1 b.1)

-- what holds of pairs holds of those that pass a test
pub pairs_filter : {X : Type 0} (R : X → X → Type 0) (p : X → Bool) (xs : List X) → EachPair R xs → EachPair R (filter p xs)
pairs_filter R p [] h = tt
pairs_filter {X} R p (x ∷ xs) h = go (p x) (pairs_filter R p xs h.1)
  where
    go : (b : Bool) → EachPair R (filter p xs) → EachPair R (cond b (x ∷ filter p xs) (filter p xs))
    go true rest = (all_filter (R x) p xs h.0, rest)
    go false rest = rest

-- what holds of pairs of images holds in the list of images
pub pairs_map : {X Y : Type 0} (R : Y → Y → Type 0) (f : X → Y) (xs : List X) → EachPair (λ x y. R (f x) (f y)) xs → EachPair R (map f xs)
pairs_map R f [] h = tt
pairs_map R f (x ∷ xs) h = (all_map (R (f x)) f xs h.0, pairs_map R f xs h.1)

-- what holds in two lists and between them holds in their join
pub pairs_append : {X : Type 0} (R : X → X → Type 0) (xs ys : List X) → EachPair R xs → EachPair R ys → AllByRecursion (λ x. AllByRecursion (R x) ys) xs → EachPair R (xs ++ ys)
pairs_append R [] ys h k c = k
pairs_append R (x ∷ xs) ys h k c = (all_append (R x) xs ys h.0 c.0, pairs_append R xs ys h.1 k c.1)

-- what holds in the lists of all and between them holds in their join
pub pairs_flat_map : {X Y : Type 0} (R : Y → Y → Type 0) (f : X → List Y) (xs : List X)
    → EachPair (λ x y. AllByRecursion (λ a. AllByRecursion (R a) (f y)) (f x)) xs → AllByRecursion (λ x. EachPair R (f x)) xs → EachPair R (flat_map f xs)
pairs_flat_map R f [] h k = tt
pairs_flat_map {X} {Y} R f (x ∷ xs) h k =
    pairs_append R (f x) (flat_map f xs) k.0 (pairs_flat_map R f xs h.1 k.1) (across (f x) h.0)
  where
    across : (bs : List Y) → AllByRecursion (λ y. AllByRecursion (λ a. AllByRecursion (R a) (f y)) bs) xs → AllByRecursion (λ a. AllByRecursion (R a) (flat_map f xs)) bs
    across [] c = tt
    across (a ∷ bs) c = (
      all_flat_map (R a) f xs (all_weaker (λ y. AllByRecursion (λ b. AllByRecursion (R b) (f y)) (a ∷ bs)) (λ y. AllByRecursion (R a) (f y)) (λ y h. h.0) xs c),
      across bs (all_weaker (λ y. AllByRecursion (λ b. AllByRecursion (R b) (f y)) (a ∷ bs)) (λ y. AllByRecursion (λ b. AllByRecursion (R b) (f y)) bs) (λ y h. h.1) xs c),
    )

-- what holds of what two elements give, if anything, holds of pairs of all that they give
pub pairs_given : {X Y : Type 0} (R : X → X → Type 0) (S : Y → Y → Type 0) (h : X → Option Y) → ((x y : X) (a b : Y) → h x ≡ Some a → h y ≡ Some b → R x y → S a b) → (xs : List X)
    → EachPair R xs → EachPair S (filter_map h xs)
pairs_given R S h f [] all = tt
pairs_given {X} {Y} R S h f (x ∷ xs) all = go (h x) refl (pairs_given R S h f xs all.1)
  where
    go : (o : Option Y) → h x ≡ o → EachPair S (filter_map h xs) → EachPair S (cons_option o (filter_map h xs))
    go None is rest = rest
    go (Some a) is rest = (all_given (R x) (S a) h (λ y b given. f x y a b is given) xs all.0, rest)

-- the relation holds of the elements at two places in order
pub pairs_at : {X : Type 0} (R : X → X → Type 0) (xs : List X) (m n : ℕ) (x y : X) → EachPair R xs → m < n → slice_get xs m ≡ Some x → slice_get xs n ≡ Some y → R x y
pairs_at R [] m n x y h lt d e = absurd cc
pairs_at R (z ∷ xs) m zero x y h lt d e = absurd (omega arith)
pairs_at R (z ∷ xs) zero (suc n) x y h lt d e = let is : z ≡ x = cc in subst (λ w. R w y) is (all_at (R z) xs n y h.0 e)
pairs_at R (z ∷ xs) (suc m) (suc n) x y h lt d e = pairs_at R xs m n x y h.1 (omega arith) d e

-- no element clashes with a later one
pub no_pair_clashes : {X : Type 0} (clash : X → X → Bool) (xs : List X) → no_pair clash xs ≡ true → EachPair (λ x y. clash x y ≡ false) xs
unfolding no_pair
no_pair_clashes clash [] e = tt
no_pair_clashes clash (x ∷ xs) e =
    let h = and_parts (not (list_any (clash x) xs)) (no_pair clash xs) e in
    (none_pass (clash x) xs (not-true _ h.0), no_pair_clashes clash xs h.1)

-- if no element clashes with a later one, no pair does
pub no_pair_from : {X : Type 0} (clash : X → X → Bool) (xs : List X) → EachPair (λ x y. clash x y ≡ false) xs → no_pair clash xs ≡ true
unfolding no_pair
no_pair_from clash [] h = refl
no_pair_from clash (x ∷ xs) h = and_from (not (list_any (clash x) xs)) (no_pair clash xs) (not_from_false (list_any (clash x) xs) (holds_of_none (clash x) xs h.0)) (no_pair_from clash xs h.1)

-- two elements that are related in neither order are one
pub one_if_unrelated : {X : Type 0} (R : X → X → Type 0) (xs : List X) (x y : X) → EachPair R xs → Contains xs x → Contains xs y → (R x y → ⊥) → (R y x → ⊥) → x ≡ y
one_if_unrelated {X} R xs x y h c d t u =
    let p = place_of xs x c in
    let q = place_of xs y d in
    elim (cases_order p.0 q.0) [
      | inl same ↦ let at : slice_get xs p.0 ≡ Some y = ap (slice_get xs) same ∙ q.1 in cc (p.1, at)
      | inr apart ↦ elim apart [
        | inl lt ↦ absurd (t (pairs_at R xs p.0 q.0 x y h lt p.1 q.1))
        | inr lt ↦ absurd (u (pairs_at R xs q.0 p.0 y x h lt q.1 p.1))
      ]
    ]

-- elements that clash both ways are one
pub one_of_two : {X : Type 0} (clash : X → X → Bool) (xs : List X) (x y : X) → no_pair clash xs ≡ true → Contains xs x → Contains xs y → clash x y ≡ true → clash y x ≡ true → x ≡ y
one_of_two clash xs x y e c d t u =
    one_if_unrelated (λ a b. clash a b ≡ false) xs x y (no_pair_clashes clash xs e) c d (λ f. both_ways (clash x y) f t) (λ f. both_ways (clash y x) f u)

-- ---- numbered elements

-- what holds of pairs holds of them with their numbers
pub pairs_numbered : {X : Type 0} (R : X → X → Type 0) (n : ℕ) (xs : List X) → EachPair R xs → EachPair (λ (x y : ℕ × X). R x.1 y.1) (enumerate_from n xs)
pairs_numbered R n [] h = tt
pairs_numbered R n (x ∷ xs) h = (all_numbered (R x) (n + 1) xs h.0, pairs_numbered R (n + 1) xs h.1)

-- the numbers rise
pub numbers_rise_by_place : {X : Type 0} (n : ℕ) (xs : List X) → EachPair (λ (x y : ℕ × X). x.0 < y.0) (enumerate_from n xs)
numbers_rise_by_place n [] = tt
numbers_rise_by_place {X} n (x ∷ xs) = (
  all_weaker (λ (y : ℕ × X). (i : ℕ) × (y.0 ≡ n + 1 + i) × (slice_get xs i ≡ Some y.1)) (λ (y : ℕ × X). n < y.0) (λ y h. omega (arith, h.1)) (enumerate_from (n + 1) xs) (numbers_are_places (n + 1) xs),
  numbers_rise_by_place (n + 1) xs,
)

-- ---- the first that passes

-- to find among those that pass a test is to find with both tests
pub find_filter : {X : Type 0} (p q : X → Bool) (xs : List X) → find p (filter q xs) ≡ find (λ x. q x && p x) xs
find_filter p q [] = refl
find_filter {X} p q (x ∷ xs) = go (q x) (find_filter p q xs)
  where
    go : (b : Bool) → find p (filter q xs) ≡ find (λ y. q y && p y) xs → find p (cond b (x ∷ filter q xs) (filter q xs)) ≡ cond (b && p x) (Some x) (find (λ y. q y && p y) xs)
    go true h = ap (cond (p x) (Some x)) h
    go false h = h

-- the number of the first element that passes the test
abbrev pub first_number : {X : Type 0} → (X → Bool) → ℕ → List X → Option ℕ
first_number {X} p n xs = option_map (λ (x : ℕ × X). x.0) (find (λ (x : ℕ × X). p x.1) (enumerate_from n xs))

-- an element with the first number passes the test
pub first_number_passes : {X : Type 0} (p : X → Bool) (n : ℕ) (xs : List X) (m : ℕ) → first_number p n xs ≡ Some m → (i : ℕ) × (x : X) × (m ≡ n + i) × (slice_get xs i ≡ Some x) × (p x ≡ true)
first_number_passes p n [] m e = absurd cc
first_number_passes {X} p n (x ∷ xs) m e = go (p x) refl (first_number_passes p (n + 1) xs m) e
  where
    go : (b : Bool) → p x ≡ b → (first_number p (n + 1) xs ≡ Some m → (i : ℕ) × (y : X) × (m ≡ n + 1 + i) × (slice_get xs i ≡ Some y) × (p y ≡ true))
        → option_map (λ (y : ℕ × X). y.0) (cond b (Some (n, x)) (find (λ (y : ℕ × X). p y.1) (enumerate_from (n + 1) xs))) ≡ Some m
        → (i : ℕ) × (y : X) × (m ≡ n + i) × (slice_get (x ∷ xs) i ≡ Some y) × (p y ≡ true)
    go true t more found = let is : n ≡ m = cc in (0, x, omega arith, refl, t)
    go false t more found = let h = more found in (suc h.0, h.1, omega (arith, h.2), h.3, h.4)

-- two elements of which at most one passes the test
abbrev pub Apart : {X : Type 0} → (X → Bool) → X → X → Type 0
Apart p x y = p x ≡ true → p y ≡ true → ⊥

-- if one alone passes the test, its number is found
pub first_number_is : {X : Type 0} (p : X → Bool) (n : ℕ) (xs : List X) (i : ℕ) (x : X) → EachPair (Apart p) xs → slice_get xs i ≡ Some x → p x ≡ true → first_number p n xs ≡ Some (n + i)
first_number_is p n [] i x h e t = absurd cc
first_number_is {X} p n (y ∷ ys) zero x h e t =
    let is : y ≡ x = cc in
    let u : p y ≡ true = ap p is ∙ t in
    let m : n ≡ n + 0 = omega arith in
    rw u (ap Some m)
first_number_is {X} p n (y ∷ ys) (suc i) x h e t =
    let u : p y ≡ false = false_from_ne_true (p y) (λ v. all_at (Apart p y) ys i x h.0 e v t) in
    let m : n + 1 + i ≡ n + suc i = omega arith in
    rw u (first_number_is p (n + 1) ys i x h.1 e t ∙ ap Some m)
