-- The indexes of files that a group asks for, and those that are missing.
use Rattle.std.proofs.Common.{◌≡◌, ℕ, suc, ◌+◌, ◌-◌, ◌<◌, ◌≤◌, get_or, Contains, flat_map, Bool, true, false, not, ◌&&◌, ◌||◌, cond, eqb, leb, List, [], ◌∷◌, ◌++◌, map, filter, refl, sym, ap, subst, ◌∙◌, arith}
use Rattle.std.proofs.lemmas.Bool.{and_parts, eqb-true, leb-true}
use Rattle.std.proofs.lemmas.Bool.Decides.{nat_tests}
use Rattle.std.proofs.lemmas.List.Sorted.{list_any-IsPermutation, Contains-permutation, IsPermutation-sym}
use Rattle.std.specs.Int.{is_in_range}
use Rattle.std.specs.List.{list_any, enumerate_from, AllByRecursion}
use Rattle.std.specs.List.Sorted.{IsPermutation, IsSorted}
use Rattle.std.specs.FinMap.{nat_cmp-IsAntisymmetric}
use Rattle.std.specs.Ordering.{nat_cmp, is_lt}
use Rattle.std.specs.declared.cmp.Ordering.{Ordering}
use Rattle.std.specs.declared.cmp.Ordering.TheVariants.{Less, Equal, Greater}
use Rattle.br_model.specs.Name.{FileKey}
use Rattle.br_model.specs.Bootstrap.{Range, Group}
use Rattle.br_model.specs.Plan.{ranges_of}
use Rattle.br_model.proofs.ListLaws.{all_among, all_weaker, of_each}
use Rattle.br_model.proofs.RangeLaws.{is_one_of}
use Rattle.br_piece.specs.Gaps.{gaps}
use Rattle.br_piece.specs.Missing.{admits_session, is_there, in_group, missing, missing_at, missing_in, numbers_in}
use Rattle.br_piece.specs.declared.lacking.Gap.{Gap}
use Rattle.br_piece.specs.NearRanges.{is_asked, asked_indexes}
use Rattle.br_piece.proofs.GapLaws.{Rise, filter_same, gaps_are, is_out, row_within}
use Rattle.br_piece.proofs.NearLaws.{greater}

-- an index of the range is one that is asked for and there, if and only if its file is there
pub there_is : (g : Group) (r : Range) (i : ℕ) (keys : List FileKey) → is_in_range r.low r.high i ≡ true
    → is_one_of (asked_indexes g r keys) i ≡ is_there g keys i
unfolding is_there
there_is g r i [] inside = refl
there_is g r i (k ∷ ks) inside = go (admits_session g k.session) (is_in_range r.low r.high k.index) refl (there_is g r i ks inside)
  where
    apart : (b : Bool) → eqb k.index i ≡ b → is_in_range r.low r.high k.index ≡ false → b ≡ false
    apart false is out = refl
    apart true is out = sym inside ∙ ap (is_in_range r.low r.high) (sym (eqb-true k.index i is)) ∙ out

    go : (a n : Bool) → is_in_range r.low r.high k.index ≡ n
        → is_one_of (asked_indexes g r ks) i ≡ list_any (λ (q : FileKey). admits_session g q.session && eqb q.index i) ks
        → is_one_of (map (λ (q : FileKey). q.index) (cond (a && n) (k ∷ filter (is_asked g r) ks) (filter (is_asked g r) ks))) i
        ≡ ((a && eqb k.index i) || list_any (λ (q : FileKey). admits_session g q.session && eqb q.index i) ks)
    go false n is rest = rest
    go true true is rest = ap (λ b. eqb k.index i || b) rest
    go true false is rest = rest ∙ ap (λ b. b || list_any (λ (q : FileKey). admits_session g q.session && eqb q.index i) ks) (sym (apart (eqb k.index i) refl is))

-- of two numbers of which the second is not less, the first is at most it
not_less : (a b : ℕ) → is_lt (nat_cmp b a) ≡ false → a ≤ b
not_less a b e = go (nat_cmp b a) refl e
  where
    go : (o : Ordering) → nat_cmp b a ≡ o → is_lt o ≡ false → a ≤ b
    go Less is f = absurd cc
    go Equal is f = let same = nat_cmp-IsAntisymmetric b a is in omega (arith, same)
    go Greater is f = let lt = greater b a is in omega (arith, lt)

-- numbers that were sorted rise
pub sorted_rise : (ns : List ℕ) → IsSorted nat_cmp ns → Rise ns
sorted_rise [] h = tt
sorted_rise (a ∷ []) h = (tt, tt)
sorted_rise (a ∷ b ∷ more) h =
    let rest : Rise (b ∷ more) =
    sorted_rise (b ∷ more) (λ k d low lt.
    let next : suc k + 1 ≡ suc (k + 1) = omega arith in
    subst (λ j. is_lt (nat_cmp (get_or (a ∷ b ∷ more) j d) (get_or (b ∷ more) k d)) ≡ false) next (h (suc k) d (omega arith) (omega (arith, lt)))) in
    let first : a ≤ b = not_less a b (h 0 a (omega arith) (omega arith)) in
    ((first, all_weaker (λ m. b ≤ m) (λ m. a ≤ m) (λ m h. omega (arith, h, first)) more rest.0), rest)

-- the indexes that are asked for are at most the end of the range
asked_within : (g : Group) (r : Range) (keys : List FileKey) → AllByRecursion (λ n. n ≤ r.high) (asked_indexes g r keys)
asked_within g r [] = tt
asked_within g r (k ∷ ks) = go (is_asked g r k) refl (asked_within g r ks)
  where
    go : (b : Bool) → is_asked g r k ≡ b → AllByRecursion (λ n. n ≤ r.high) (asked_indexes g r ks)
        → AllByRecursion (λ n. n ≤ r.high) (map (λ (q : FileKey). q.index) (cond b (k ∷ filter (is_asked g r) ks) (filter (is_asked g r) ks)))
    go false is rest = rest
    go true is rest =
        let inside = and_parts (admits_session g k.session) (is_in_range r.low r.high k.index) is in
        (leb-true k.index r.high (and_parts (leb r.low k.index) (leb k.index r.high) inside.1).1, rest)

in_row : (low high i : ℕ) → low ≤ i → i < low + (high + 1 - low) → is_in_range low high i ≡ true
in_row low high i le lt = grind (arith, nat_tests)

-- the gaps between the sorted indexes of a part with all files that are asked for are the missing indexes
pub gaps_are_missing : (g : Group) (r : Range) (keys part : List FileKey) (sorted : List ℕ) → filter (is_asked g r) part ≡ filter (is_asked g r) keys
    → IsPermutation (asked_indexes g r part) sorted → IsSorted nat_cmp sorted → gaps r.low r.high sorted ≡ missing_in g keys r
unfolding missing_in
gaps_are_missing g r keys part sorted same moved rising =
    gaps_are r.low r.high sorted (sorted_rise sorted rising) (all_weaker (Contains sorted) (λ n. n ≤ r.high) below sorted (all_among sorted))
    ∙ ap ranges_of (filter_same (is_out sorted) (λ i. not (is_there g keys i)) (numbers_in r)
    (row_within (λ i. is_out sorted i ≡ not (is_there g keys i)) r.low (r.high + 1 - r.low) (λ i le lt. ap not (there i (in_row r.low r.high i le lt)))))
  where
    below : (n : ℕ) → Contains sorted n → n ≤ r.high
    below n inside =
        of_each (λ m. m ≤ r.high) (asked_indexes g r part) n (asked_within g r part)
        (Contains-permutation sorted (asked_indexes g r part) n (IsPermutation-sym (asked_indexes g r part) sorted moved) inside)

    there : (i : ℕ) → is_in_range r.low r.high i ≡ true → is_one_of sorted i ≡ is_there g keys i
    there i inside =
        sym (list_any-IsPermutation (λ x. eqb x i) (asked_indexes g r part) sorted moved)
        ∙ ap (λ (ks : List FileKey). is_one_of (map (λ (q : FileKey). q.index) ks) i) same ∙ there_is g r i keys inside

-- files in another order are there as before
pub there_permuted : (g : Group) (keys sorted : List FileKey) → IsPermutation keys sorted → (i : ℕ) → is_there g sorted i ≡ is_there g keys i
unfolding is_there
there_permuted g keys sorted moved i = sym (list_any-IsPermutation (λ (k : FileKey). admits_session g k.session && eqb k.index i) keys sorted moved)

-- of a range the same indexes are missing of files in another order
missing_in_permuted : (g : Group) (r : Range) (keys sorted : List FileKey) → IsPermutation keys sorted → missing_in g sorted r ≡ missing_in g keys r
unfolding missing_in
missing_in_permuted g r keys sorted moved =
    ap ranges_of (filter_same (λ i. not (is_there g sorted i)) (λ i. not (is_there g keys i)) (numbers_in r)
    (row_within (λ i. not (is_there g sorted i) ≡ not (is_there g keys i)) r.low (r.high + 1 - r.low) (λ i le lt. ap not (there_permuted g keys sorted moved i))))

-- so are those of all groups
pub missing_permuted : (groups : List Group) (keys sorted : List FileKey) → IsPermutation keys sorted → missing groups sorted ≡ missing groups keys
unfolding missing
missing_permuted groups keys sorted moved = all_groups 0 groups
  where
    of_ranges : (g : Group) (rs : List Range) → flat_map (missing_in g sorted) rs ≡ flat_map (missing_in g keys) rs
    of_ranges g [] = refl
    of_ranges g (r ∷ rs) =
        ap (λ (runs : List Range). runs ++ flat_map (missing_in g sorted) rs) (missing_in_permuted g r keys sorted moved)
        ∙ ap (λ (runs : List Range). missing_in g keys r ++ runs) (of_ranges g rs)

    all_groups : (n : ℕ) (gs : List Group) → flat_map (missing_at sorted) (enumerate_from n gs) ≡ flat_map (missing_at keys) (enumerate_from n gs)
    all_groups n [] = refl
    all_groups n (g ∷ gs) =
        ap (λ (runs : List Range). map (in_group n) runs ++ flat_map (missing_at sorted) (enumerate_from (n + 1) gs)) (of_ranges g g.indexes)
        ∙ ap (λ (found : List Gap). missing_at keys (n, g) ++ found) (all_groups (n + 1) gs)
