-- Lists that grow at their end, and lists the other way round.
use Rattle.std.proofs.Common.{◌≡◌, ℕ, suc, ◌+◌, ◌<◌, List, [], ◌∷◌, ◌++◌, map, flat_map, reverse, length, take, drop, slice_index_or, refl, ap, sym, subst, ◌∙◌, append_assoc, arith}
use Rattle.std.specs.List.{AllByRecursion, AllZip}
use mathlib.Core.List.{reverse-append}

pub map_more : {A B : Type 0} (f : A → B) (xs : List A) (x : A) → map f (xs ++ x ∷ []) ≡ map f xs ++ f x ∷ []
map_more f [] x = refl
map_more f (y ∷ ys) x = ap (λ l. f y ∷ l) (map_more f ys x)

-- the last of a list comes first, the other way round
pub turned_more : {A B : Type 0} (f : A → B) (xs : List A) (x : A) → reverse (map f (xs ++ x ∷ [])) ≡ f x ∷ reverse (map f xs)
turned_more f xs x = ap reverse (map_more f xs x) ∙ reverse-append (map f xs) (f x ∷ [])

-- what moves from the end of one list to the front of the other
pub moved_back : {A : Type 0} (front : List A) (x : A) (back old all : List A) → old ≡ front ++ x ∷ [] → old ++ back ≡ all → front ++ x ∷ back ≡ all
moved_back front x back old all e h = sym (append_assoc front (x ∷ []) back) ∙ ap (λ l. l ++ back) (sym e) ∙ h

-- what moves from the end of a list to the end of another, the other way round
pub back_more : {A B : Type 0} (f : A → B) (front after all : List B) (new old : List A) (w : A) → old ≡ new ++ w ∷ [] → after ≡ front ++ f w ∷ []
    → front ++ reverse (map f old) ≡ all → after ++ reverse (map f new) ≡ all
back_more f front after all new old w e p h =
    ap (λ l. l ++ reverse (map f new)) p ∙ append_assoc front (f w ∷ []) (reverse (map f new)) ∙ ap (λ l. front ++ l) (sym (turned_more f new w) ∙ ap (λ l. reverse (map f l)) (sym e)) ∙ h

-- the same of lists of lists
pub parts_more : {A B : Type 0} (f : A → List B) (front after all : List B) (new old : List A) (w : A) → old ≡ new ++ w ∷ [] → after ≡ front ++ f w
    → front ++ flat_map f (reverse old) ≡ all → after ++ flat_map f (reverse new) ≡ all
parts_more f front after all new old w e p h =
    ap (λ l. l ++ flat_map f (reverse new)) p ∙ append_assoc front (f w) (flat_map f (reverse new))
    ∙ ap (λ l. front ++ flat_map f l) (sym (reverse-append new (w ∷ [])) ∙ ap reverse (sym e)) ∙ h

pub all_more : {A : Type 0} (P : A → Type 0) (xs : List A) (x : A) → AllByRecursion P xs → P x → AllByRecursion P (xs ++ x ∷ [])
all_more P [] x h p = (p, tt)
all_more P (y ∷ ys) x h p = (h.0, all_more P ys x h.1 p)

pub all_but_last : {A : Type 0} (P : A → Type 0) (xs : List A) (x : A) → AllByRecursion P (xs ++ x ∷ []) → AllByRecursion P xs × P x
all_but_last P [] x h = (tt, h.0)
all_but_last P (y ∷ ys) x h = let r = all_but_last P ys x h.1 in ((h.0, r.0), r.1)

reverse_cons : {X : Type 0} (x : X) (xs : List X) → reverse (x ∷ xs) ≡ reverse xs ++ x ∷ []
reverse_cons x xs = reverse-append (x ∷ []) xs

pub all_reverse : {A : Type 0} (P : A → Type 0) (xs : List A) → AllByRecursion P xs → AllByRecursion P (reverse xs)
all_reverse P [] h = tt
all_reverse P (x ∷ xs) h = rw (reverse_cons x xs) (all_more P (reverse xs) x (all_reverse P xs h.1) h.0)

pub reverse_reverse : {X : Type 0} (xs : List X) → reverse (reverse xs) ≡ xs
reverse_reverse [] = refl
reverse_reverse (x ∷ xs) = ap reverse (reverse_cons x xs) ∙ reverse-append (reverse xs) (x ∷ []) ∙ ap (λ l. x ∷ l) (reverse_reverse xs)

pub map_reverse : {A B : Type 0} (f : A → B) (xs : List A) → map f (reverse xs) ≡ reverse (map f xs)
map_reverse f [] = refl
map_reverse f (x ∷ xs) = rw (reverse_cons x xs, reverse_cons (f x) (map f xs), map_more f (reverse xs) x) (ap (λ l. l ++ f x ∷ []) (map_reverse f xs))

-- ---- two lists

pub zip_at : {X : Type 0} (R : X → X → Type 0) (xs ys : List X) → length ys ≡ length xs
    → ((i : ℕ) (d : X) → i < length xs → R (slice_index_or xs i d) (slice_index_or ys i d)) → AllZip R xs ys
zip_at R [] [] len h = tt
zip_at R [] (y ∷ ys) len h = absurd (omega (arith, len))
zip_at R (x ∷ xs) [] len h = absurd (omega (arith, len))
zip_at R (x ∷ xs) (y ∷ ys) len h = (h 0 x (omega arith), zip_at R xs ys (omega (arith, len)) (λ i d low. h (suc i) d (omega (arith, low))))

pub written : {X : Type 0} (n : ℕ) (a b : List X) → length a ≡ n → take n (a ++ drop (length a) b) ≡ a
written n a b e = subst (λ k. take k (a ++ drop (length a) b) ≡ a) e (front a (drop (length a) b))
  where
    front : {X : Type 0} (a r : List X) → take (length a) (a ++ r) ≡ a
    front [] r = refl
    front (x ∷ xs) r = ap (λ l. x ∷ l) (front xs r)

zip_more : {A B : Type 0} (R : A → B → Type 0) (xs : List A) (ys : List B) (x : A) (y : B) → AllZip R xs ys → R x y → AllZip R (xs ++ x ∷ []) (ys ++ y ∷ [])
zip_more R [] [] x y h r = (r, tt)
zip_more R [] (b ∷ ys) x y h r = absurd h
zip_more R (a ∷ xs) [] x y h r = absurd h
zip_more R (a ∷ xs) (b ∷ ys) x y h r = (h.0, zip_more R xs ys x y h.1 r)

pub zip_reverse : {A B : Type 0} (R : A → B → Type 0) (xs : List A) (ys : List B) → AllZip R xs ys → AllZip R (reverse xs) (reverse ys)
zip_reverse R [] [] h = tt
zip_reverse R [] (y ∷ ys) h = absurd h
zip_reverse R (x ∷ xs) [] h = absurd h
zip_reverse R (x ∷ xs) (y ∷ ys) h = rw (reverse_cons x xs, reverse_cons y ys) (zip_more R (reverse xs) (reverse ys) x y (zip_reverse R xs ys h.1) h.0)

-- what holds of each of the one list holds of each that goes with it
pub all_over : {A B : Type 0} (R : A → B → Type 0) (P : A → Type 0) (Q : B → Type 0) → ((a : A) (b : B) → R a b → P a → Q b) → (xs : List A) (ys : List B)
    → AllZip R xs ys → AllByRecursion P xs → AllByRecursion Q ys
all_over R P Q so [] [] z h = tt
all_over R P Q so [] (y ∷ ys) z h = absurd z
all_over R P Q so (x ∷ xs) [] z h = absurd z
all_over R P Q so (x ∷ xs) (y ∷ ys) z h = (so x y z.0 h.0, all_over R P Q so xs ys z.1 h.1)

pub zip_length : {A B : Type 0} (R : A → B → Type 0) (xs : List A) (ys : List B) → AllZip R xs ys → length ys ≡ length xs
zip_length R [] [] z = refl
zip_length R [] (y ∷ ys) z = absurd z
zip_length R (x ∷ xs) [] z = absurd z
zip_length R (x ∷ xs) (y ∷ ys) z = ap suc (zip_length R xs ys z.1)

-- ---- what each element gives

pub zip_map : {A B : Type 0} (R : B → B → Type 0) (f : A → B) (xs ys : List A) → AllZip (λ x y. R (f x) (f y)) xs ys → AllZip R (map f xs) (map f ys)
zip_map R f [] [] z = tt
zip_map R f [] (y ∷ ys) z = absurd z
zip_map R f (x ∷ xs) [] z = absurd z
zip_map R f (x ∷ xs) (y ∷ ys) z = (z.0, zip_map R f xs ys z.1)

pub zip_so : {A B : Type 0} (R S : A → B → Type 0) → ((a : A) (b : B) → R a b → S a b) → (xs : List A) (ys : List B) → AllZip R xs ys → AllZip S xs ys
zip_so R S so [] [] z = tt
zip_so R S so [] (y ∷ ys) z = absurd z
zip_so R S so (x ∷ xs) [] z = absurd z
zip_so R S so (x ∷ xs) (y ∷ ys) z = (so x y z.0, zip_so R S so xs ys z.1)

pub all_mapped : {A B : Type 0} (P : B → Type 0) (f : A → B) (xs : List A) → AllByRecursion (λ x. P (f x)) xs → AllByRecursion P (map f xs)
all_mapped P f [] h = tt
all_mapped P f (x ∷ xs) h = (h.0, all_mapped P f xs h.1)

pub all_unmapped : {A B : Type 0} (P : B → Type 0) (f : A → B) (xs : List A) → AllByRecursion P (map f xs) → AllByRecursion (λ x. P (f x)) xs
all_unmapped P f [] h = tt
all_unmapped P f (x ∷ xs) h = (h.0, all_unmapped P f xs h.1)

pub length_map : {A B : Type 0} (f : A → B) (xs : List A) → length (map f xs) ≡ length xs
length_map f [] = refl
length_map f (x ∷ xs) = ap suc (length_map f xs)

pub length_reverse : {A : Type 0} (xs : List A) → length (reverse xs) ≡ length xs
length_reverse [] = refl
length_reverse (x ∷ xs) = ap length (reverse_cons x xs) ∙ grows (reverse xs) x ∙ ap suc (length_reverse xs)
  where
    grows : {A : Type 0} (ys : List A) (y : A) → length (ys ++ y ∷ []) ≡ suc (length ys)
    grows [] y = refl
    grows (z ∷ zs) y = ap suc (grows zs y)

-- the last of one element
pub last_alone : {A : Type 0} (xs front : List A) (x : A) → length xs ≡ 1 → xs ≡ front ++ x ∷ [] → (xs ≡ x ∷ []) × (front ≡ [])
last_alone xs [] x one e = (e, refl)
last_alone xs (y ∷ ys) x one e = absurd (omega (arith, one, ap length e, grows_by ys x))
  where
    grows_by : {A : Type 0} (ys : List A) (y : A) → length (ys ++ y ∷ []) ≡ suc (length ys)
    grows_by [] y = refl
    grows_by (z ∷ zs) y = ap suc (grows_by zs y)

-- ---- what is left from a place on

drop_front : {X : Type 0} (xs ys : List X) → drop (length xs) (xs ++ ys) ≡ ys
drop_front [] ys = refl
drop_front (x ∷ xs) ys = drop_front xs ys
