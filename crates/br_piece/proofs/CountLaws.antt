-- The files that a group gets, by one of its ranges after another.
use Rattle.std.proofs.Common.{◌≡◌, ℕ, suc, ◌+◌, ◌<◌, ◌≤◌, Bool, true, false, ◌&&◌, ◌||◌, cond, leb, List, [], ◌∷◌, ◌++◌, length, drop, get_or, flat_map, Option, Some, None, refl, sym, ap, ◌∙◌, arith}
use Rattle.std.specs.Prelude.{max, count_by, slice_get}
use Rattle.std.specs.Option.{option_map_or}
use Rattle.std.specs.Int.{is_in_range}
use Rattle.std.specs.List.{list_any, enumerate_from}
use Rattle.std.specs.List.Sorted.{IsNonDecreasingBy, IsPermutation}
use Rattle.std.proofs.lemmas.Bool.Decides.{nat_tests}
use Rattle.std.proofs.lemmas.Bool.{le-leb}
use Rattle.std.proofs.lemmas.Grind.{common_steps}
use Rattle.std.proofs.lemmas.List.Sorted.{list_any-IsPermutation, sum_by-IsPermutation}
use Rattle.std.proofs.lemmas.List.Sums.{sum_by-cons}
use Rattle.br_model.specs.Bootstrap.{Range, Group}
use Rattle.br_model.specs.Name.{FileKey}
use Rattle.br_model.specs.Text.{is_empty}
use Rattle.br_piece.specs.FileCounts.{got, got_by, is_got, is_got_by, rest_from}
use Rattle.br_piece.specs.MissingLines.{count_at, count_lines, count_text}
use Rattle.br_piece.specs.Missing.{admits_session}
use Rattle.br_piece.specs.NearRanges.{is_asked}

abbrev one_if : Bool → ℕ
one_if b = cond b 1 0

-- ---- counting by tests

count_more : {X : Type 0} (p : X → Bool) (x : X) (xs : List X) → count_by p (x ∷ xs) ≡ one_if (p x) + count_by p xs
count_more p x xs = sum_by-cons (λ y. one_if (p y)) x xs

count_same : {X : Type 0} (p q : X → Bool) → ((x : X) → p x ≡ q x) → (xs : List X) → count_by p xs ≡ count_by q xs
count_same p q h [] = refl
count_same p q h (x ∷ xs) =
    count_more p x xs ∙ ap (λ b. one_if b + count_by p xs) (h x) ∙ ap (λ n. one_if (q x) + n) (count_same p q h xs) ∙ sym (count_more q x xs)

count_none : {X : Type 0} (p : X → Bool) → ((x : X) → p x ≡ false) → (xs : List X) → count_by p xs ≡ 0
count_none p h [] = refl
count_none p h (x ∷ xs) = count_more p x xs ∙ ap (λ b. one_if b + count_by p xs) (h x) ∙ ap (λ n. 0 + n) (count_none p h xs)

four : (a b c d e f : ℕ) → a + b ≡ c → d + e ≡ f → (a + d) + (b + e) ≡ c + f
four a b c d e f x y = omega (arith, x, y)

-- what passes one of two tests, and no element both
count_both : {X : Type 0} (p q t : X → Bool) → ((x : X) → one_if (p x) + one_if (q x) ≡ one_if (t x)) → (xs : List X)
    → count_by p xs + count_by q xs ≡ count_by t xs
count_both p q t h [] = refl
count_both p q t h (x ∷ xs) =
    ap (λ n. n + count_by q (x ∷ xs)) (count_more p x xs) ∙ ap (λ n. one_if (p x) + count_by p xs + n) (count_more q x xs)
    ∙ four (one_if (p x)) (one_if (q x)) (one_if (t x)) (count_by p xs) (count_by q xs) (count_by t xs) (h x) (count_both p q t h xs)
    ∙ sym (count_more t x xs)

-- ---- ranges in order of their low ends

abbrev inside : ℕ → Range → Bool
inside i r = is_in_range r.low r.high i

from_low : (low high i n : ℕ) → n ≤ low → is_in_range low high i ≡ true → n ≤ i
from_low low high i n le e = grind (arith, nat_tests)

-- an index in one of some ranges is not below their low ends
any_above : (n i : ℕ) (rs : List Range) → ((j : ℕ) (d : Range) → j < length rs → n ≤ (get_or rs j d).low) → list_any (inside i) rs ≡ true → n ≤ i
any_above n i [] h e = absurd cc
any_above n i (r ∷ rs) h e = go (inside i r) refl e (any_above n i rs (λ j d lt. h (suc j) d (omega (arith, lt))))
  where
    go : (b : Bool) → inside i r ≡ b → (b || list_any (inside i) rs) ≡ true → (list_any (inside i) rs ≡ true → n ≤ i) → n ≤ i
    go true is f rest = from_low r.low r.high i n (h 0 r (omega arith)) is
    go false is f rest = rest f

-- ---- one range after another

-- the index is from this number on, and in one of the ranges
abbrev is_after : Group → ℕ → List Range → FileKey → Bool
is_after g next rs k = admits_session g k.session && (leb next k.index && list_any (inside k.index) rs)

in_one_part : (next low high i : ℕ) (any : Bool) → (any ≡ true → low ≤ i)
    → one_if (is_in_range (max low next) high i) + one_if (leb (max next (high + 1)) i && any) ≡ one_if (leb next i && (is_in_range low high i || any))
in_one_part next low high i true above = let le : low ≤ i = above refl in grind (arith, nat_tests)
in_one_part next low high i false above = grind (arith, nat_tests)

nothing_after : (g : Group) (next : ℕ) (k : FileKey) → is_after g next [] k ≡ false
nothing_after g next k = go (admits_session g k.session) (leb next k.index)
  where
    go : (a b : Bool) → (a && (b && false)) ≡ false
    go true true = refl
    go true false = refl
    go false b = refl

pub got_by_is : (g : Group) (keys : List FileKey) (next : ℕ) (rs : List Range) → IsNonDecreasingBy (λ (r : Range). r.low) rs
    → got_by g keys next rs ≡ count_by (is_after g next rs) keys
got_by_is g keys next [] rising = sym (count_none (is_after g next []) (nothing_after g next) keys)
got_by_is g keys next (r ∷ rs) rising =
    ap (λ n. count_by (is_asked g (rest_from next r)) keys + n) (got_by_is g keys (max next (r.high + 1)) rs (λ i j d le lt. rising (suc i) (suc j) d (omega (arith, le)) (omega (arith, lt))))
    ∙ count_both (is_asked g (rest_from next r)) (is_after g (max next (r.high + 1)) rs) (is_after g next (r ∷ rs)) each keys
  where
    by_session : (a p q t : Bool) → one_if p + one_if q ≡ one_if t → one_if (a && p) + one_if (a && q) ≡ one_if (a && t)
    by_session true p q t e = e
    by_session false p q t e = refl

    each : (k : FileKey) → one_if (is_asked g (rest_from next r) k) + one_if (is_after g (max next (r.high + 1)) rs k) ≡ one_if (is_after g next (r ∷ rs) k)
    each k =
        by_session (admits_session g k.session) (is_in_range (max r.low next) r.high k.index) (leb (max next (r.high + 1)) k.index && list_any (inside k.index) rs)
        (leb next k.index && (is_in_range r.low r.high k.index || list_any (inside k.index) rs))
        (in_one_part next r.low r.high k.index (list_any (inside k.index) rs)
        (any_above r.low k.index rs (λ j d lt. rising 0 (suc j) d (omega arith) (omega (arith, lt)))))

-- all ranges from the first number on
pub got_by_all : (g : Group) (keys : List FileKey) (rs : List Range) → IsNonDecreasingBy (λ (r : Range). r.low) rs
    → got_by g keys 0 rs ≡ count_by (is_got_by g rs) keys
got_by_all g keys rs rising = got_by_is g keys 0 rs rising ∙ count_same (is_after g 0 rs) (is_got_by g rs) each keys
  where
    each : (k : FileKey) → is_after g 0 rs k ≡ is_got_by g rs k
    each k = ap (λ b. admits_session g k.session && (b && list_any (inside k.index) rs)) (le-leb 0 k.index (omega arith))

-- no range is left
none_left : (rs : List Range) (i : ℕ) → length rs ≤ i → drop i rs ≡ []
none_left rs i past = grind (arith, common_steps)

pub all_ranges : (g : Group) (keys : List FileKey) (found next i : ℕ) (rs : List Range) → length rs ≤ i
    → found + got_by g keys next (drop i rs) ≡ got_by g keys 0 rs → IsNonDecreasingBy (λ (r : Range). r.low) rs → found ≡ count_by (is_got_by g rs) keys
all_ranges g keys found next i rs past all rising =
    add_zero found ∙ ap (λ (left : List Range). found + got_by g keys next left) (sym (none_left rs i past)) ∙ all ∙ got_by_all g keys rs rising
  where
    add_zero : (n : ℕ) → n ≡ n + 0
    add_zero n = omega arith

-- a range without numbers has no files
pub none_in : (g : Group) (keys : List FileKey) (low high : ℕ) → high < low → count_by (is_asked g (record { low = low; high = high })) keys ≡ 0
none_in g keys low high lt = count_none (is_asked g (record { low = low; high = high })) (λ k. go (admits_session g k.session) k.index) keys
  where
    empty : (i : ℕ) → is_in_range low high i ≡ false
    empty i = grind (arith, nat_tests)

    go : (a : Bool) (i : ℕ) → (a && is_in_range low high i) ≡ false
    go true i = empty i
    go false i = refl

-- ---- the files that a group gets

pub got_sorted : (g : Group) (keys : List FileKey) (sorted : List Range) → is_empty g.indexes ≡ false → IsPermutation g.indexes sorted
    → count_by (is_got_by g sorted) keys ≡ got g keys
unfolding got
got_sorted g keys sorted some moved = count_same (is_got_by g sorted) (is_got g) each keys
  where
    each : (k : FileKey) → is_got_by g sorted k ≡ is_got g k
    each k =
        ap (λ b. admits_session g k.session && b)
        (sym (list_any-IsPermutation (inside k.index) g.indexes sorted moved) ∙ ap (λ b. b || list_any (inside k.index) g.indexes) (sym some))

pub got_any : (g : Group) (keys : List FileKey) → is_empty g.indexes ≡ true → count_by (λ (k : FileKey). admits_session g k.session) keys ≡ got g keys
unfolding got
got_any g keys none = count_same (λ (k : FileKey). admits_session g k.session) (is_got g) each keys
  where
    and_true : (a : Bool) → a ≡ (a && true)
    and_true true = refl
    and_true false = refl

    each : (k : FileKey) → admits_session g k.session ≡ is_got g k
    each k = and_true (admits_session g k.session) ∙ ap (λ b. admits_session g k.session && (b || list_any (inside k.index) g.indexes)) (sym none)

-- the same ranges
pub count_of_ranges : (g : Group) (keys : List FileKey) {rs ss : List Range} → rs ≡ ss → count_by (is_got_by g rs) keys ≡ count_by (is_got_by g ss) keys
count_of_ranges g keys same = ap (λ (xs : List Range). count_by (is_got_by g xs) keys) same

-- ---- files in another order

pub got_permuted : (g : Group) (keys sorted : List FileKey) → IsPermutation keys sorted → got g sorted ≡ got g keys
unfolding got
got_permuted g keys sorted moved = sum_by-IsPermutation (λ (k : FileKey). one_if (is_got g k)) keys sorted moved

pub counts_permuted : (groups : List Group) (counts : List (Option ℕ)) (keys sorted : List FileKey) → IsPermutation keys sorted
    → count_lines groups counts sorted ≡ count_lines groups counts keys
counts_permuted groups counts keys sorted moved = from 0 counts
  where
    of_group : (g : Group) (n : ℕ) → count_text g n sorted ≡ count_text g n keys
    of_group g n = rw (got_permuted g keys sorted moved) refl

    of_place : (o : Option Group) (n : ℕ) → option_map_or (λ g. count_text g n sorted) o [] ≡ option_map_or (λ g. count_text g n keys) o []
    of_place None n = refl
    of_place (Some g) n = of_group g n

    at : (place : ℕ) (c : Option ℕ) → count_at groups sorted (place, c) ≡ count_at groups keys (place, c)
    at place None = refl
    at place (Some n) = of_place (slice_get groups place) n

    from : (place : ℕ) (cs : List (Option ℕ)) → flat_map (count_at groups sorted) (enumerate_from place cs) ≡ flat_map (count_at groups keys) (enumerate_from place cs)
    from place [] = refl
    from place (c ∷ cs) =
        ap (λ (text : List ℕ). text ++ flat_map (count_at groups sorted) (enumerate_from (place + 1) cs)) (at place c)
        ∙ ap (λ (text : List ℕ). count_at groups keys (place, c) ++ text) (from (place + 1) cs)
