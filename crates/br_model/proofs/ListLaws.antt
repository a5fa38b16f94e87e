-- Elements of lists: which lists have them, what holds of each of them, and where they are.
use Rattle.std.proofs.Common.{◌≡◌, ℕ, zero, suc, ◌+◌, ◌≤◌, Bool, true, false, not, ◌&&◌, cond, List, [], length, ◌<◌, ◌∷◌, ◌++◌, map, filter, Option, Some, None, refl, sym, ap, subst, ◌∙◌, inl, inr, ◌⊎◌, arith}
use Rattle.std.proofs.Math.Nat.{zero-add}
use Rattle.std.proofs.lemmas.Bool.{eqb-true, ltb-false, ltb-true, ne_eqb, and_parts, and_from, or_parts, or_from, or_left, or_right, or_cases, both_ways}
use Rattle.std.proofs.lemmas.List.{nil_from_length}
use Rattle.std.proofs.lemmas.List.Elements.{Contains-append_left, Contains-append_right, Contains-append_cases}
use Rattle.std.proofs.lemmas.Slice.Eq.{bytes_eq-Decides}
use Rattle.std.specs.Prelude.{bytes_eq, Contains, nat_lt, position, slice_get, flat_map, filter_map, fold, max, option_to_list}
use Rattle.std.specs.List.{AllByRecursion, AllZip, list_any, list_all, enumerate_from, cons_option, last_or, position_or_len}
use Rattle.br_model.specs.Text.{is_empty}
use Rattle.br_model.specs.Order.{without_repeats}

-- ---- elements

-- the first element of a list is in it
pub first_in : {X : Type 0} (x : X) (xs : List X) (y : X) → x ≡ y → Contains (x ∷ xs) y
first_in x xs y e = (0, omega arith, e)

-- an element of the rest of a list is in the list
pub later_in : {X : Type 0} (x : X) (xs : List X) (y : X) → Contains xs y → Contains (x ∷ xs) y
later_in x xs y h = (suc h.0, omega (arith, h.1), h.2)

-- an element of a list is the first or one of the rest
pub first_or_later : {X : Type 0} (x : X) (xs : List X) (y : X) → Contains (x ∷ xs) y → (x ≡ y) ⊎ Contains xs y
first_or_later x xs y (zero, lt, e) = inl e
first_or_later x xs y (suc k, lt, e) = inr (k, omega arith, e)

-- an empty list has no element
pub none_in : {X : Type 0} (y : X) → Contains [] y → ⊥
none_in y h = omega (arith, h.1)

-- a list of no elements
pub empty_is_nil : {X : Type 0} (xs : List X) → is_empty xs ≡ true → xs ≡ []
empty_is_nil xs e = nil_from_length xs (eqb-true (length xs) 0 e)

-- a list that is not empty has a length above 0
pub not_empty_is_long : {X : Type 0} (xs : List X) → is_empty xs ≡ false → 0 < length xs
not_empty_is_long [] e = absurd cc
not_empty_is_long (x ∷ xs) e = omega arith

-- a list with a length above 0 is not empty
pub long_is_not_empty : {X : Type 0} (xs : List X) → 0 < length xs → is_empty xs ≡ false
long_is_not_empty xs lt = ne_eqb (length xs) 0 (λ e. omega arith)

-- a list with a first element is not empty
pub cons_not_empty : {X : Type 0} (x : X) (xs : List X) → is_empty (x ∷ xs) ≡ false
cons_not_empty x xs = long_is_not_empty (x ∷ xs) (omega arith)

-- a list that has an element is not empty
pub not_empty : {X : Type 0} (xs : List X) (x : X) → Contains xs x → is_empty xs ≡ false
not_empty xs x h = long_is_not_empty xs (omega (arith, h.1))

-- ---- what holds of each element

-- what holds of each element holds of one that is in the list
pub of_each : {X : Type 0} (P : X → Type 0) (xs : List X) (y : X) → AllByRecursion P xs → Contains xs y → P y
of_each P [] y h among = absurd (none_in y among)
of_each P (x ∷ xs) y h among =
    elim (first_or_later x xs y among) [
      | inl e ↦ subst P e h.0
      | inr inside ↦ of_each P xs y h.1 inside
    ]

-- what holds of whatever is in the list holds of each element
pub to_each : {X : Type 0} (P : X → Type 0) (xs : List X) → ((y : X) → Contains xs y → P y) → AllByRecursion P xs
to_each P [] h = tt
to_each P (x ∷ xs) h = (h x (first_in x xs x refl), to_each P xs (λ y inside. h y (later_in x xs y inside)))

-- what holds of each element whatever it is
pub all_any : {X : Type 0} (P : X → Type 0) → ((x : X) → P x) → (xs : List X) → AllByRecursion P xs
all_any P f xs = to_each P xs (λ x inside. f x)

-- each element is one that the list has
pub all_among : {X : Type 0} (xs : List X) → AllByRecursion (Contains xs) xs
all_among xs = to_each (Contains xs) xs (λ x inside. inside)

-- what holds of all and implies another fact gives that of all
pub all_weaker : {X : Type 0} (P Q : X → Type 0) → ((x : X) → P x → Q x) → (xs : List X) → AllByRecursion P xs → AllByRecursion Q xs
all_weaker P Q f [] h = tt
all_weaker P Q f (x ∷ xs) h = (f x h.0, all_weaker P Q f xs h.1)

-- what holds of all holds of those that pass a test
pub all_filter : {X : Type 0} (P : X → Type 0) (p : X → Bool) (xs : List X) → AllByRecursion P xs → AllByRecursion P (filter p xs)
all_filter P p [] h = tt
all_filter {X} P p (x ∷ xs) h = go (p x) (all_filter P p xs h.1)
  where
    go : (b : Bool) → AllByRecursion P (filter p xs) → AllByRecursion P (cond b (x ∷ filter p xs) (filter p xs))
    go true rest = (h.0, rest)
    go false rest = rest

-- what holds of the elements of two lists holds of their join
pub all_append : {X : Type 0} (P : X → Type 0) (xs ys : List X) → AllByRecursion P xs → AllByRecursion P ys → AllByRecursion P (xs ++ ys)
all_append P [] ys h k = k
all_append P (x ∷ xs) ys h k = (h.0, all_append P xs ys h.1 k)

-- what holds of each image holds of the list of images
pub all_map : {X Y : Type 0} (P : Y → Type 0) (f : X → Y) (xs : List X) → AllByRecursion (λ x. P (f x)) xs → AllByRecursion P (map f xs)
all_map P f [] h = tt
all_map P f (x ∷ xs) h = (h.0, all_map P f xs h.1)

-- what holds of the lists of all holds of their join
pub all_flat_map : {X Y : Type 0} (P : Y → Type 0) (f : X → List Y) (xs : List X) → AllByRecursion (λ x. AllByRecursion P (f x)) xs → AllByRecursion P (flat_map f xs)
all_flat_map P f [] h = tt
all_flat_map P f (x ∷ xs) h = all_append P (f x) (flat_map f xs) h.0 (all_flat_map P f xs h.1)

-- what holds of what each element gives, if anything, holds of all that they give
pub all_given : {X Y : Type 0} (P : X → Type 0) (Q : Y → Type 0) (h : X → Option Y) → ((x : X) (y : Y) → h x ≡ Some y → P x → Q y) → (xs : List X)
    → AllByRecursion P xs → AllByRecursion Q (filter_map h xs)
all_given P Q h f [] all = tt
all_given {X} {Y} P Q h f (x ∷ xs) all = go (h x) refl (all_given P Q h f xs all.1)
  where
    go : (o : Option Y) → h x ≡ o → AllByRecursion Q (filter_map h xs) → AllByRecursion Q (cons_option o (filter_map h xs))
    go None is rest = rest
    go (Some y) is rest = (f x y is all.0, rest)

-- what holds of the value of an option holds of each element of its list
pub of_option : {X : Type 0} (P : X → Type 0) (o : Option X) → ((x : X) → o ≡ Some x → P x) → AllByRecursion P (option_to_list o)
of_option P None h = tt
of_option P (Some x) h = (h x refl, tt)

-- each element of a list is related to its image
pub zip_images : {X Y : Type 0} (R : X → Y → Type 0) (f : X → Y) (xs : List X) → AllByRecursion (λ (x : X). R x (f x)) xs → AllZip R xs (map f xs)
zip_images R f [] h = tt
zip_images R f (x ∷ xs) h = (h.0, zip_images R f xs h.1)

-- ---- elements of made lists

-- the image of an element is among the images
pub contains_map : {X Y : Type 0} (f : X → Y) (xs : List X) (x : X) → Contains xs x → Contains (map f xs) (f x)
contains_map f [] x h = absurd (none_in x h)
contains_map f (y ∷ ys) x h =
    elim (first_or_later y ys x h) [
      | inl e ↦ first_in (f y) (map f ys) (f x) (ap f e)
      | inr inside ↦ later_in (f y) (map f ys) (f x) (contains_map f ys x inside)
    ]

-- an image is that of an element
pub from_image : {X Y : Type 0} (f : X → Y) (xs : List X) (y : Y) → Contains (map f xs) y → (x : X) × Contains xs x × (f x ≡ y)
from_image f [] y inside = absurd (none_in y inside)
from_image f (x ∷ xs) y inside =
    elim (first_or_later (f x) (map f xs) y inside) [
      | inl e ↦ (x, first_in x xs x refl, e)
      | inr later ↦ let r = from_image f xs y later in (r.0, later_in x xs r.0 r.1, r.2)
    ]

-- an element of the list of one is among all
pub contains_flat_map : {X Y : Type 0} (f : X → List Y) (xs : List X) (x : X) (y : Y) → Contains xs x → Contains (f x) y → Contains (flat_map f xs) y
contains_flat_map f [] x y among inside = absurd (none_in x among)
contains_flat_map {X} {Y} f (z ∷ zs) x y among inside =
    elim (first_or_later z zs x among) [
      | inl e ↦ Contains-append_left (f z) (flat_map f zs) y (subst (λ (w : X). Contains (f w) y) (sym e) inside)
      | inr more ↦ Contains-append_right (f z) (flat_map f zs) y (contains_flat_map f zs x y more inside)
    ]

-- an element of joined images is in one of them
pub from_joined : {X Y : Type 0} (f : X → List Y) (xs : List X) (y : Y) → Contains (flat_map f xs) y → (x : X) × Contains xs x × Contains (f x) y
from_joined f [] y inside = absurd (none_in y inside)
from_joined f (x ∷ xs) y inside =
    elim (Contains-append_cases (f x) (flat_map f xs) y inside) [
      | inl here ↦ (x, first_in x xs x refl, here)
      | inr there ↦ let r = from_joined f xs y there in (r.0, later_in x xs r.0 r.1, r.2)
    ]

-- what an element gives is in the partial image
pub given_in : {X Y : Type 0} (h : X → Option Y) (xs : List X) (x : X) (y : Y) → Contains xs x → h x ≡ Some y → Contains (filter_map h xs) y
given_in h [] x y inside e = absurd (none_in x inside)
given_in {X} {Y} h (z ∷ zs) x y inside e =
    elim (first_or_later z zs x inside) [
      | inl same ↦ rw (ap h same ∙ e) (first_in y (filter_map h zs) y refl)
      | inr later ↦ go (h z) (given_in h zs x y later e)
    ]
  where
    go : (o : Option Y) → Contains (filter_map h zs) y → Contains (cons_option o (filter_map h zs)) y
    go None there = there
    go (Some w) there = later_in w (filter_map h zs) y there

-- what a partial image has is what some element gives
pub from_given : {X Y : Type 0} (h : X → Option Y) (xs : List X) (y : Y) → Contains (filter_map h xs) y → (x : X) × Contains xs x × (h x ≡ Some y)
from_given h [] y inside = absurd (none_in y inside)
from_given {X} {Y} h (x ∷ xs) y inside = go (h x) refl inside (from_given h xs y)
  where
    go : (o : Option Y) → h x ≡ o → Contains (cons_option o (filter_map h xs)) y → (Contains (filter_map h xs) y → (z : X) × Contains xs z × (h z ≡ Some y))
        → (z : X) × Contains (x ∷ xs) z × (h z ≡ Some y)
    go None is there rest = let r = rest there in (r.0, later_in x xs r.0 r.1, r.2)
    go (Some w) is there rest =
        elim (first_or_later w (filter_map h xs) y there) [
          | inl e ↦ (x, first_in x xs x refl, is ∙ ap Some e)
          | inr later ↦ let r = rest later in (r.0, later_in x xs r.0 r.1, r.2)
        ]

-- an element that passes the test is kept
pub contains_filter : {X : Type 0} (p : X → Bool) (xs : List X) (x : X) → Contains xs x → p x ≡ true → Contains (filter p xs) x
contains_filter p [] x among e = absurd (none_in x among)
contains_filter {X} p (y ∷ ys) x among e =
    elim (first_or_later y ys x among) [
      | inl is ↦ rw (ap p is ∙ e) (first_in y (filter p ys) x is)
      | inr more ↦ go (p y) (contains_filter p ys x more e)
    ]
  where
    go : (b : Bool) → Contains (filter p ys) x → Contains (cond b (y ∷ filter p ys) (filter p ys)) x
    go true inside = later_in y (filter p ys) x inside
    go false inside = inside

-- an element that is kept is one of the list, and passes the test
pub kept_passes : {X : Type 0} (p : X → Bool) (xs : List X) (x : X) → Contains (filter p xs) x → Contains xs x × (p x ≡ true)
kept_passes p [] x among = absurd (none_in x among)
kept_passes {X} p (y ∷ ys) x among = go (p y) refl (λ h. kept_passes p ys x h) among
  where
    behind : Contains ys x × (p x ≡ true) → Contains (y ∷ ys) x × (p x ≡ true)
    behind r = (later_in y ys x r.0, r.1)

    go : (b : Bool) → p y ≡ b → (Contains (filter p ys) x → Contains ys x × (p x ≡ true))
        → Contains (cond b (y ∷ filter p ys) (filter p ys)) x → Contains (y ∷ ys) x × (p x ≡ true)
    go true e rest h =
        elim (first_or_later y (filter p ys) x h) [
          | inl is ↦ (first_in y ys x is, ap p (sym is) ∙ e)
          | inr inside ↦ behind (rest inside)
        ]
    go false e rest h = behind (rest h)

-- an element that is kept is one of the list
pub from_kept : {X : Type 0} (p : X → Bool) (xs : List X) (x : X) → Contains (filter p xs) x → Contains xs x
from_kept p xs x inside = (kept_passes p xs x inside).0

-- those that are kept pass the test
pub kept_pass : {X : Type 0} (p : X → Bool) (xs : List X) → AllByRecursion (λ x. p x ≡ true) (filter p xs)
kept_pass p xs = to_each (λ x. p x ≡ true) (filter p xs) (λ x inside. (kept_passes p xs x inside).1)

-- an element of a list is in the list without repeats
pub in_without_repeats : (xss : List (List ℕ)) (xs : List ℕ) → Contains xss xs → Contains (without_repeats xss) xs
unfolding without_repeats
in_without_repeats [] xs inside = absurd (none_in xs inside)
in_without_repeats (y ∷ ys) xs inside = go (first_or_later y ys xs inside) (in_without_repeats ys xs) (bytes_eq y xs) refl
  where
    kept : List (List ℕ)
    kept = filter (λ z. not (bytes_eq y z)) (without_repeats ys)

    go : (y ≡ xs) ⊎ Contains ys xs → (Contains ys xs → Contains (without_repeats ys) xs) → (b : Bool) → bytes_eq y xs ≡ b → Contains (y ∷ kept) xs
    go (inl e) rest b is = first_in y kept xs e
    go (inr later) rest true is = first_in y kept xs ((bytes_eq-Decides y xs).0 is)
    go (inr later) rest false is = later_in y kept xs (contains_filter (λ z. not (bytes_eq y z)) (without_repeats ys) xs (rest later) (ap not is))

last_from : {X : Type 0} (y : X) (ys : List X) (x : X) → last_or (Some y) ys ≡ Some x → (y ≡ x) ⊎ Contains ys x
last_from y [] x e = inl cc
last_from y (z ∷ zs) x e =
    elim (last_from z zs x e) [
      | inl same ↦ inr (first_in z zs x same)
      | inr later ↦ inr (later_in z zs x later)
    ]

-- the last element of a list is one of it
pub from_last : {X : Type 0} (xs : List X) (x : X) → last_or None xs ≡ Some x → Contains xs x
from_last [] x e = absurd cc
from_last (y ∷ ys) x e =
    elim (last_from y ys x e) [
      | inl same ↦ first_in y ys x same
      | inr later ↦ later_in y ys x later
    ]

-- ---- tests and filters

-- a test that all pass
pub all_pass : {X : Type 0} (p : X → Bool) (xs : List X) → list_all p xs ≡ true → AllByRecursion (λ x. p x ≡ true) xs
all_pass p [] e = tt
all_pass p (x ∷ xs) e = let h = and_parts (p x) (list_all p xs) e in (h.0, all_pass p xs h.1)

-- what each passes all pass
pub holds_of_all : {X : Type 0} (p : X → Bool) (xs : List X) → AllByRecursion (λ (x : X). p x ≡ true) xs → list_all p xs ≡ true
holds_of_all p [] h = refl
holds_of_all p (x ∷ xs) h = and_from (p x) (list_all p xs) h.0 (holds_of_all p xs h.1)

-- a test that none passes
pub none_pass : {X : Type 0} (p : X → Bool) (xs : List X) → list_any p xs ≡ false → AllByRecursion (λ x. p x ≡ false) xs
none_pass p [] e = tt
none_pass p (x ∷ xs) e = let h = or_parts (p x) (list_any p xs) e in (h.0, none_pass p xs h.1)

-- what each fails none passes
pub holds_of_none : {X : Type 0} (p : X → Bool) (xs : List X) → AllByRecursion (λ (x : X). p x ≡ false) xs → list_any p xs ≡ false
holds_of_none p [] h = refl
holds_of_none p (x ∷ xs) h = or_from (p x) (list_any p xs) h.0 (holds_of_none p xs h.1)

-- if an element passes a test, some does
pub some_passes : {X : Type 0} (p : X → Bool) (xs : List X) (x : X) → Contains xs x → p x ≡ true → list_any p xs ≡ true
some_passes p [] x inside e = absurd (none_in x inside)
some_passes p (y ∷ ys) x inside e =
    elim (first_or_later y ys x inside) [
      | inl same ↦ or_left (p y) (list_any p ys) (ap p same ∙ e)
      | inr later ↦ or_right (p y) (list_any p ys) (some_passes p ys x later e)
    ]

-- if some element passes a test, the list has an element that passes it
pub from_some : {X : Type 0} (p : X → Bool) (xs : List X) → list_any p xs ≡ true → (x : X) × Contains xs x × (p x ≡ true)
from_some p [] e = absurd cc
from_some p (x ∷ xs) e =
    elim (or_cases (p x) (list_any p xs) e) [
      | inl here ↦ (x, first_in x xs x refl, here)
      | inr there ↦ let r = from_some p xs there in (r.0, later_in x xs r.0 r.1, r.2)
    ]

-- a filter keeps all of a list whose elements all pass
pub keeps_all : {X : Type 0} (p : X → Bool) (xs : List X) → AllByRecursion (λ (x : X). p x ≡ true) xs → filter p xs ≡ xs
keeps_all p [] h = refl
keeps_all p (x ∷ xs) h = rw (h.0, keeps_all p xs h.1) refl

-- a filter keeps nothing of a list of which no element passes
pub keeps_none : {X : Type 0} (p : X → Bool) (xs : List X) → AllByRecursion (λ (x : X). p x ≡ false) xs → filter p xs ≡ []
keeps_none p [] h = refl
keeps_none p (x ∷ xs) h = rw h.0 (keeps_none p xs h.1)

-- what two filters keep, one after the other, is what passes both tests
pub filter_twice : {X : Type 0} (p q : X → Bool) (xs : List X) → filter q (filter p xs) ≡ filter (λ (x : X). p x && q x) xs
filter_twice p q [] = refl
filter_twice {X} p q (x ∷ xs) = go (p x) (q x) (filter_twice p q xs)
  where
    go : (b c : Bool) → filter q (filter p xs) ≡ filter (λ (y : X). p y && q y) xs
        → filter q (cond b (x ∷ filter p xs) (filter p xs)) ≡ cond (b && q x) (x ∷ filter (λ (y : X). p y && q y) xs) (filter (λ (y : X). p y && q y) xs)
    go true c rest = ap (λ ys. cond (q x) (x ∷ ys) ys) rest
    go false c rest = rest

-- what one test keeps stays if another keeps it, too
pub filter_within : {X : Type 0} (p q : X → Bool) → ((x : X) → p x ≡ true → q x ≡ true) → (xs : List X) → filter p (filter q xs) ≡ filter p xs
filter_within p q f [] = refl
filter_within {X} p q f (x ∷ xs) = go (p x) (q x) refl refl (filter_within p q f xs)
  where
    go : (a b : Bool) → p x ≡ a → q x ≡ b → filter p (filter q xs) ≡ filter p xs
        → filter p (cond b (x ∷ filter q xs) (filter q xs)) ≡ cond a (x ∷ filter p xs) (filter p xs)
    go a true pa qb rest = ap (λ t. cond t (x ∷ filter p (filter q xs)) (filter p (filter q xs))) pa ∙ ap (λ ys. cond a (x ∷ ys) ys) rest
    go true false pa qb rest = absurd (both_ways (q x) qb (f x pa))
    go false false pa qb rest = rest

-- ---- places and numbers

-- an element of a list is at a place
pub place_of : {X : Type 0} (xs : List X) (x : X) → Contains xs x → (n : ℕ) × (slice_get xs n ≡ Some x)
place_of [] x h = absurd (none_in x h)
place_of (y ∷ ys) x (zero, lt, e) = (0, ap Some e)
place_of (y ∷ ys) x (suc k, lt, e) = let p = place_of ys x (k, omega arith, e) in (suc p.0, p.1)

-- a list has the element at a place
pub has_at : {X : Type 0} (xs : List X) (n : ℕ) (x : X) → slice_get xs n ≡ Some x → Contains xs x
has_at [] n x e = absurd cc
has_at (y ∷ ys) zero x e = first_in y ys x cc
has_at (y ∷ ys) (suc n) x e = later_in y ys x (has_at ys n x e)

-- what holds of all holds of the one at a place
pub all_at : {X : Type 0} (P : X → Type 0) (xs : List X) (n : ℕ) (x : X) → AllByRecursion P xs → slice_get xs n ≡ Some x → P x
all_at P xs n x h e = of_each P xs x h (has_at xs n x e)

-- what is at a place comes with its number
pub place_numbered : {X : Type 0} (n : ℕ) (xs : List X) (i : ℕ) (x : X) → slice_get xs i ≡ Some x → Contains (enumerate_from n xs) (n + i, x)
place_numbered n [] i x e = absurd cc
place_numbered {X} n (y ∷ ys) zero x e =
    let is : y ≡ x = cc in
    let number : n ≡ n + 0 = omega arith in
    first_in (n, y) (enumerate_from (n + 1) ys) (n + 0, x) (λ t. (number t, is t))
place_numbered {X} n (y ∷ ys) (suc i) x e =
    let number : n + 1 + i ≡ n + suc i = omega arith in
    later_in (n, y) (enumerate_from (n + 1) ys) (n + suc i, x)
    (subst (λ (k : ℕ). Contains (enumerate_from (n + 1) ys) (k, x)) number (place_numbered (n + 1) ys i x e))

-- what comes with a number is at the number's place
pub numbered_place : {X : Type 0} (n : ℕ) (xs : List X) (p : ℕ × X) → Contains (enumerate_from n xs) p → (i : ℕ) × (p.0 ≡ n + i) × (slice_get xs i ≡ Some p.1)
numbered_place n [] p among = absurd (none_in p among)
numbered_place {X} n (x ∷ xs) p among =
    elim (first_or_later (n, x) (enumerate_from (n + 1) xs) p among) [
      | inl e ↦ let number : n ≡ p.0 = ap (λ (q : ℕ × X). q.0) e in (0, omega (arith, number), ap (λ (q : ℕ × X). Some q.1) e)
      | inr more ↦ let r = numbered_place (n + 1) xs p more in (suc r.0, omega (arith, r.1), r.2)
    ]

-- each number is that of its element's place
pub numbers_are_places : {X : Type 0} (n : ℕ) (xs : List X) → AllByRecursion (λ (x : ℕ × X). (i : ℕ) × (x.0 ≡ n + i) × (slice_get xs i ≡ Some x.1)) (enumerate_from n xs)
numbers_are_places {X} n xs = to_each (λ (x : ℕ × X). (i : ℕ) × (x.0 ≡ n + i) × (slice_get xs i ≡ Some x.1)) (enumerate_from n xs) (numbered_place n xs)

-- what comes with a number counted from 0 is at this place
pub at_number : {X : Type 0} (xs : List X) (i : ℕ) (x : X) → Contains (enumerate_from 0 xs) (i, x) → slice_get xs i ≡ Some x
at_number xs i x h =
    let p = numbered_place 0 xs (i, x) h in
    let same : p.0 ≡ i = omega (arith, p.1) in
    ap (slice_get xs) (sym same) ∙ p.2

-- what is at a place comes with its number, counted from 0
pub number_at : {X : Type 0} (xs : List X) (i : ℕ) (x : X) → slice_get xs i ≡ Some x → Contains (enumerate_from 0 xs) (i, x)
number_at {X} xs i x e = subst (λ (k : ℕ). Contains (enumerate_from 0 xs) (k, x)) (zero-add i) (place_numbered 0 xs i x e)

-- what comes with a number is in the list
pub numbered_in : {X : Type 0} (n : ℕ) (xs : List X) (m : ℕ) (x : X) → Contains (enumerate_from n xs) (m, x) → Contains xs x
numbered_in n xs m x inside = let p = numbered_place n xs (m, x) inside in has_at xs p.0 x p.2

-- an element comes with some number
pub contains_numbered : {X : Type 0} (n : ℕ) (xs : List X) (x : X) → Contains xs x → (k : ℕ) × Contains (enumerate_from n xs) (k, x)
contains_numbered n xs x h = let p = place_of xs x h in (n + p.0, place_numbered n xs p.0 x p.1)

-- what holds of each numbered element holds of the one at a place
pub at_place : {X : Type 0} (P : ℕ × X → Type 0) (n : ℕ) (xs : List X) (k : ℕ) (x : X) → AllByRecursion P (enumerate_from n xs) → slice_get xs k ≡ Some x → P (n + k, x)
at_place P n xs k x h e = of_each P (enumerate_from n xs) (n + k, x) h (place_numbered n xs k x e)

-- what holds of all holds of them with their numbers
pub all_numbered : {X : Type 0} (P : X → Type 0) (n : ℕ) (xs : List X) → AllByRecursion P xs → AllByRecursion (λ (x : ℕ × X). P x.1) (enumerate_from n xs)
all_numbered P n [] h = tt
all_numbered P n (x ∷ xs) h = (h.0, all_numbered P (n + 1) xs h.1)

-- ---- the greatest of some values

-- the greatest of values is at least the first
pub at_least : {X : Type 0} (value : X → ℕ) (n : ℕ) (xs : List X) → n ≤ fold (λ m x. max m (value x)) n xs
at_least value n [] = omega arith
at_least value n (x ∷ xs) = let h = at_least value (max n (value x)) xs in omega (arith, h)

-- ---- the place of the first that passes

module _ {X : Type 0} (p : X → Bool) where
  -- the first that passes is at the place
  pub found_at : (xs : List X) (i : ℕ) → position p xs ≡ Some i → (position_or_len p xs ≡ i) × (i < length xs)
  found_at xs i h =
      elim (nat_lt (position_or_len p xs) (length xs)) as (λ b. nat_lt (position_or_len p xs) (length xs) ≡ b → cond b (Some (position_or_len p xs)) None ≡ Some i
      → (position_or_len p xs ≡ i) × (i < length xs)) [
        | true ↦ λ is some. let e : position_or_len p xs ≡ i = cc in (e, rw e at (ltb-true (position_or_len p xs) (length xs) is))
        | false ↦ λ is some. absurd cc
      ] refl h

  -- or none passes
  pub not_found : (xs : List X) → position p xs ≡ None → length xs ≤ position_or_len p xs
  not_found xs h =
      elim (nat_lt (position_or_len p xs) (length xs)) as (λ b. nat_lt (position_or_len p xs) (length xs) ≡ b → cond b (Some (position_or_len p xs)) None ≡ None
      → length xs ≤ position_or_len p xs)
      [ true ↦ λ is some. absurd cc | false ↦ λ is none. ltb-false (position_or_len p xs) (length xs) is ] refl h

-- the first that passes is in front, or after the first element
pub at_front : (b : Bool) (rest : ℕ) → cond (not b) (1 + rest) 0 ≡ 0 → b ≡ true
at_front true rest h = refl
at_front false rest h = absurd (omega arith)

pub behind : (b : Bool) (rest i : ℕ) → cond (not b) (1 + rest) 0 ≡ suc i → (b ≡ false) × (rest ≡ i)
behind true rest i h = absurd (omega arith)
behind false rest i h = (refl, omega arith)

pub behind_all : (b : Bool) (rest n : ℕ) → suc n ≤ cond (not b) (1 + rest) 0 → (b ≡ false) × (n ≤ rest)
behind_all true rest n h = absurd (omega arith)
behind_all false rest n h = (refl, omega arith)
