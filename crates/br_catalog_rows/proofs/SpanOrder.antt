-- A stable sort by number brings spans into order.
use Rattle.std.proofs.Common.{◌≡◌, ℕ, ◌≤◌, ◌<◌, Bool, true, false, cond, not, ◌&&◌, ◌==◌, nat_le, List, [], ◌∷◌, filter, length, get_or, suc, refl, sym, ap, ap₂, arith, ◌∙◌}
use Rattle.std.specs.List.{AllByRecursion}
use Rattle.std.specs.List.Sorted.{IsStableByKey, IsSortedByKey, ties}
use Rattle.std.proofs.lemmas.List.Sorted.{IsNonDecreasingBy-from_sort}
use Rattle.std.proofs.lemmas.Cmp.{nat_cmp_total}
use Rattle.std.proofs.lemmas.List.Elements.{recursion_from_All}
use Rattle.std.specs.Cmp.{unsigned_ties}
use Rattle.std.specs.Prelude.{⊤}
use Rattle.std.specs.Ordering.{nat_cmp, ordering_reverse, is_eq, is_lt}
use Rattle.std.specs.declared.cmp.Ordering.{Ordering}
use Rattle.std.specs.declared.cmp.Ordering.TheVariants.{Less, Equal, Greater}
use Rattle.std.proofs.lemmas.Bool.{leb-true, leb-false}
use denote.Param.Members.{Mut}
use Rattle.std.specs.Borrow.{Bor}
use Rattle.std.specs.Fn.{Called, ComputesKey}
use Rattle.std.proofs.lemmas.Fn.{always_returns_same}
use Rattle.std.proofs.lemmas.Bool.Decides.{Decides-eqb}
use Rattle.br_model.specs.Job.{Span}
use Rattle.br_catalog_rows.specs.Load.{put_span, by_number}

-- whether a span has the number of another
abbrev at : Span → Span → Bool
at s t = s.vol_index == t.vol_index

abbrev From : ℕ → List Span → Type 0
From n spans = AllByRecursion (λ (t : Span). n ≤ t.vol_index) spans

-- the numbers do not fall
unfoldable Up : List Span → Type 0
Up [] = ⊤
Up (s ∷ ss) = From s.vol_index ss × Up ss

itself : (s : Span) → at s s ≡ true
itself s = (Decides-eqb s.vol_index s.vol_index).1 refl

-- ---- one list in order

lower : (m n : ℕ) (ss : List Span) → m ≤ n → From n ss → From m ss
lower m n [] le h = tt
lower m n (s ∷ ss) le h = (omega (arith, le, h.0), lower m n ss le h.1)

from_found : (n : ℕ) (x w : Span) (zs ws : List Span) → From n zs → filter (at x) zs ≡ w ∷ ws → n ≤ x.vol_index
from_found n x w [] ws h e = absurd cc
from_found n x w (z ∷ zs) ws h e = go (at x z) refl (from_found n x w zs ws h.1) e
  where
    go : (b : Bool) → at x z ≡ b → (filter (at x) zs ≡ w ∷ ws → n ≤ x.vol_index) → cond b (z ∷ filter (at x) zs) (filter (at x) zs) ≡ w ∷ ws → n ≤ x.vol_index
    go true is later e = omega (arith, h.0, (Decides-eqb x.vol_index z.vol_index).0 is)
    go false is later e = later e

heads : (x y : Span) (xs ys : List Span) → ◌≡◌ {A = List Span} (x ∷ xs) (y ∷ ys) → x ≡ y
heads x y xs ys e = cc

tails : (x y : Span) (xs ys : List Span) → ◌≡◌ {A = List Span} (x ∷ xs) (y ∷ ys) → xs ≡ ys
tails x y xs ys e = cc

none_is_some : (z : Span) (zs : List Span) → ◌≡◌ {A = List Span} [] (z ∷ zs) → ⊥
none_is_some z zs e = absurd cc

kept_first : (x y : Span) (ys : List Span) → at x y ≡ true → filter (at x) (y ∷ ys) ≡ y ∷ filter (at x) ys
kept_first x y ys is = rw is refl

left_out : (x y : Span) (ys : List Span) → at x y ≡ false → filter (at x) (y ∷ ys) ≡ filter (at x) ys
left_out x y ys is = rw is refl

rest_same : (y z : Span) (ys zs : List Span) → y ≡ z → ((x : Span) → filter (at x) (y ∷ ys) ≡ filter (at x) (z ∷ zs)) → (x : Span) → filter (at x) ys ≡ filter (at x) zs
rest_same y z ys zs one same x = go (at x y) refl
  where
    go : (b : Bool) → at x y ≡ b → filter (at x) ys ≡ filter (at x) zs
    go true is = tails y z (filter (at x) ys) (filter (at x) zs) (sym (kept_first x y ys is) ∙ same x ∙ kept_first x z zs (ap (at x) (sym one) ∙ is))
    go false is = sym (left_out x y ys is) ∙ same x ∙ left_out x z zs (ap (at x) (sym one) ∙ is)

-- lists in order with the same spans of each number are one
unique : (ys zs : List Span) → Up ys → Up zs → ((x : Span) → filter (at x) ys ≡ filter (at x) zs) → ys ≡ zs
unfolding Up
unique [] [] up on same = refl
unique [] (z ∷ zs) up on same = absurd (none_is_some z (filter (at z) zs) (same z ∙ kept_first z z zs (itself z)))
unique (y ∷ ys) [] up on same = absurd (none_is_some y (filter (at y) ys) (sym (same y) ∙ kept_first y y ys (itself y)))
unique (y ∷ ys) (z ∷ zs) up on same =
    let le : z.vol_index ≤ y.vol_index = from_found z.vol_index y y (z ∷ zs) (filter (at y) ys) (omega arith, on.0) (sym (same y) ∙ kept_first y y ys (itself y)) in
    let ge : y.vol_index ≤ z.vol_index = from_found y.vol_index z z (y ∷ ys) (filter (at z) zs) (omega arith, up.0) (same z ∙ kept_first z z zs (itself z)) in
    let tie : at y z ≡ true = (Decides-eqb y.vol_index z.vol_index).1 (omega (arith, le, ge)) in
    let one : y ≡ z = heads y z (filter (at y) ys) (filter (at y) zs) (sym (kept_first y y ys (itself y)) ∙ same y ∙ kept_first y z zs tie) in
    ap₂ ◌∷◌ one (unique ys zs up.1 on.1 (rest_same y z ys zs one same))

-- ---- sorted spans

put_from : (n : ℕ) (s : Span) (ts : List Span) → n ≤ s.vol_index → From n ts → From n (put_span s ts)
unfolding put_span
put_from n s [] le h = (le, tt)
put_from n s (t ∷ ts) le h = go (nat_le s.vol_index t.vol_index) (put_from n s ts le h.1)
  where
    go : (b : Bool) → From n (put_span s ts) → From n (cond b (s ∷ t ∷ ts) (t ∷ put_span s ts))
    go true later = (le, h)
    go false later = (h.0, later)

above : (m n : ℕ) → nat_le m n ≡ false → n < m
above m n is = leb-false m n is

put_up : (s : Span) (ts : List Span) → Up ts → Up (put_span s ts)
unfolding Up put_span
put_up s [] up = (tt, tt)
put_up s (t ∷ ts) up = go (nat_le s.vol_index t.vol_index) refl (put_up s ts up.1)
  where
    go : (b : Bool) → nat_le s.vol_index t.vol_index ≡ b → Up (put_span s ts) → Up (cond b (s ∷ t ∷ ts) (t ∷ put_span s ts))
    go true is on = ((leb-true s.vol_index t.vol_index is, lower s.vol_index t.vol_index ts (leb-true s.vol_index t.vol_index is) up.0), up)
    go false is on = (put_from t.vol_index s ts (omega (arith, above s.vol_index t.vol_index is)) up.0, on)

put_filter : (x s : Span) (ts : List Span) → filter (at x) (put_span s ts) ≡ filter (at x) (s ∷ ts)
unfolding put_span
put_filter x s [] = refl
put_filter x s (t ∷ ts) = go (nat_le s.vol_index t.vol_index) refl (put_filter x s ts)
  where
    swap : (a b : Bool) → (a ≡ true → b ≡ true → ⊥) → cond b (t ∷ cond a (s ∷ filter (at x) ts) (filter (at x) ts)) (cond a (s ∷ filter (at x) ts) (filter (at x) ts))
        ≡ cond a (s ∷ cond b (t ∷ filter (at x) ts) (filter (at x) ts)) (cond b (t ∷ filter (at x) ts) (filter (at x) ts))
    swap true true never = absurd (never refl refl)
    swap true false never = refl
    swap false true never = refl
    swap false false never = refl

    go : (b : Bool) → nat_le s.vol_index t.vol_index ≡ b → filter (at x) (put_span s ts) ≡ filter (at x) (s ∷ ts) → filter (at x) (cond b (s ∷ t ∷ ts) (t ∷ put_span s ts)) ≡ filter (at x) (s ∷ t ∷ ts)
    go true is same = refl
    go false is same =
        ap (λ l. cond (at x t) (t ∷ l) l) same
        ∙ swap (at x s) (at x t) (λ a b. omega (arith, above s.vol_index t.vol_index is, (Decides-eqb x.vol_index s.vol_index).0 a, (Decides-eqb x.vol_index t.vol_index).0 b))

number_up : (xs : List Span) → Up (by_number xs)
unfolding Up by_number
number_up [] = tt
number_up (x ∷ xs) = put_up x (by_number xs) (number_up xs)

number_filter : (x : Span) (xs : List Span) → filter (at x) (by_number xs) ≡ filter (at x) xs
unfolding by_number
number_filter x [] = refl
number_filter x (s ∷ xs) = put_filter x s (by_number xs) ∙ ap (λ l. cond (at x s) (s ∷ l) l) (number_filter x xs)

-- ---- what the sort says

tie_is : (a b : Ordering) → b ≡ ordering_reverse a → (not (is_lt a) && not (is_lt b)) ≡ is_eq a
tie_is Less b e = refl
tie_is Equal b e = ap (λ o. not (is_lt o)) e
tie_is Greater b e = ap (λ o. not (is_lt o)) e

tied_is : (x y : Span) → ties (λ (s t : Span). is_lt (nat_cmp s.vol_index t.vol_index)) x y ≡ at x y
tied_is x y =
    tie_is (nat_cmp x.vol_index y.vol_index) (nat_cmp y.vol_index x.vol_index) (nat_cmp_total.antisymm y.vol_index x.vol_index)
    ∙ sym (unsigned_ties x.vol_index y.vol_index)

tied_are : (x : Span) (ys : List Span) → filter (ties (λ (s t : Span). is_lt (nat_cmp s.vol_index t.vol_index)) x) ys ≡ filter (at x) ys
tied_are x ys = ap (λ (p : Span → Bool). filter p ys) (λ i y. tied_is x y i)

up_of_places : (ys : List Span) → ((i j : ℕ) (d : Span) → i ≤ j → j < length ys → (get_or ys i d).vol_index ≤ (get_or ys j d).vol_index) → Up ys
unfolding Up
up_of_places [] h = tt
up_of_places (y ∷ ys) h = (
  recursion_from_All (λ (t : Span). y.vol_index ≤ t.vol_index) ys (λ k d lt. h 0 (suc k) d (omega arith) (omega arith)),
  up_of_places ys (λ i j d le in_list. h (suc i) (suc j) d (omega arith) (omega arith)),
)

-- spans that a stable sort by number gives
pub sorted_by_number : (xs ys : List Span) → IsSortedByKey (λ (s : Span). s.vol_index) nat_cmp ys → IsStableByKey (λ (s : Span). s.vol_index) nat_cmp xs ys → ys ≡ by_number xs
sorted_by_number xs ys sorted stable =
    unique ys (by_number xs) (up_of_places ys (IsNonDecreasingBy-from_sort (λ (s : Span). s.vol_index) ys sorted)) (number_up xs)
    (λ x. sym (tied_are x ys) ∙ stable x ∙ tied_are x xs ∙ sym (number_filter x xs))

-- the clauses of `sort_by_key`, if each call gives the number of the span
pub from_sort : {F : Type 0} {g : Mut F (Bor Span × Unit {0}) ℕ} {f : F} (xs ys : List Span) → ((key : Span → ℕ) → ComputesKey g key f → IsSortedByKey key nat_cmp ys)
    → ((key : Span → ℕ) → ComputesKey g key f → IsStableByKey key nat_cmp xs ys) → ((a : Bor Span × Unit {0}) (r : ℕ) (f' : F) → Called g f a r f' → (r ≡ a.0.now.vol_index) × (f' ≡ f))
    → ys ≡ by_number xs
from_sort {g = g} {f = f} xs ys up stable h =
    let number : Span → ℕ = λ s. s.vol_index in
    let same = always_returns_same g (λ (a : Bor Span × Unit {0}) r. r ≡ a.0.now.vol_index) f h in
    sorted_by_number xs ys (up number same) (stable number same)
