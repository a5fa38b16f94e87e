-- Lists in the order of a rank: the entries of the library's finite maps. What they have, and that their ranks rise.
use Rattle.std.proofs.Common.{◌≡◌, ℕ, zero, suc, Bool, true, false, cond, List, [], ◌∷◌, map, filter, Some, refl, sym, ap, subst, ◌∙◌, inl, inr, ◌⊎◌, arith}
use Rattle.std.proofs.lemmas.Bool.{and_parts, and_from}
use Rattle.std.proofs.lemmas.List.{nil_from_length, map-id}
use Rattle.std.proofs.lemmas.List.Sorted.{IsPermutation-refl, IsPermutation-trans, IsPermutation-cons, IsPermutation-middle}
use Rattle.std.specs.Prelude.{Contains, T, slice_index}
use Rattle.std.specs.List.{AllByRecursion}
use Rattle.std.specs.List.Sorted.{IsPermutation}
use Rattle.std.specs.FinMap.{FinMap, IsAntisymmetric, put, find, is_sorted, entries, entries_sorted, from_entries, entries-insert, len-entries, len-empty, slice_cmp-IsAntisymmetric, nat_cmp-IsAntisymmetric}
use Rattle.std.specs.FinMap.Entries.{by_order, below_all}
use Rattle.std.specs.Cmp.{IsTotalOrder, tied_itself}
use Rattle.std.specs.Cmp.Lexicographic.{slice_cmp, nat_list_cmp_total}
use Rattle.std.specs.Ordering.{nat_cmp, is_lt, is_eq}
use Rattle.std.specs.declared.cmp.Ordering.{Ordering}
use Rattle.std.specs.declared.cmp.Ordering.TheVariants.{Less, Equal, Greater}
use Rattle.br_model.specs.Order.{put_all, ranked, in_order}
use Rattle.br_model.proofs.ListLaws.{first_in, later_in, first_or_later, none_in, of_each, to_each, all_weaker, all_map, contains_map}
use mathlib.Core.List.{map-map}
use Rattle.br_model.proofs.PairLaws.{EachPair, pairs_map, pairs_with, pairs_filter}

-- the order of the dictionary
abbrev pub rank_cmp : List ℕ → List ℕ → Ordering
rank_cmp = slice_cmp nat_cmp

-- ranks that tie are one
pub same_rank : (p q : List ℕ) → rank_cmp p q ≡ Equal → p ≡ q
same_rank = slice_cmp-IsAntisymmetric nat_cmp-IsAntisymmetric

-- a rank is not below itself
pub not_below_itself : (k : List ℕ) → rank_cmp k k ≡ Less → ⊥
not_below_itself k e = let tie : rank_cmp k k ≡ Equal = tied_itself nat_list_cmp_total k in absurd cc

-- ---- entries of maps

-- entries inserted one by one are those of the map that is made from them
pub put_all-entries : {K X : Type 0} {R : K → K → Ordering} → IsTotalOrder R → (es : List (K × X)) → put_all R es ≡ entries (from_entries {X = X} {R = R} es)
unfolding put_all
put_all-entries {X = X} {R = R} o [] =
    sym (nil_from_length (entries (from_entries {X = X} {R = R} [])) (sym (len-entries (from_entries {X = X} {R = R} [])) ∙ len-empty R X))
put_all-entries {X = X} {R = R} o (e ∷ es) = ap (put R e.0 e.1) (put_all-entries o es) ∙ sym (entries-insert o (from_entries {X = X} {R = R} es) e.0 e.1)

-- the elements under their ranks
abbrev pub map_of : {X : Type 0} → (X → List ℕ) → List X → FinMap (slice_cmp nat_cmp) X
map_of {X} rank xs = from_entries (map (λ (x : X). (rank x, x)) xs)

pub ranked-entries : {X : Type 0} (rank : X → List ℕ) (xs : List X) → ranked rank xs ≡ entries (map_of rank xs)
unfolding ranked
ranked-entries {X} rank xs = put_all-entries nat_list_cmp_total (map (λ (x : X). (rank x, x)) xs)

-- ---- finding an entry

-- an entry that is found is in the list, if only equal keys tie
pub found_is_in : {K X : Type 0} (R : K → K → Ordering) → IsAntisymmetric R → (q : K) (x : X) (es : List (K × X)) → find R q es ≡ Some x → Contains es (q, x)
found_is_in R same q x [] e = absurd cc
found_is_in {K} {X} R same q x (f ∷ fs) e = go (R q f.0) refl e (found_is_in R same q x fs)
  where
    go : (o : Ordering) → R q f.0 ≡ o → cond (is_eq o) (Some f.1) (find R q fs) ≡ Some x → (find R q fs ≡ Some x → Contains fs (q, x)) → Contains (f ∷ fs) (q, x)
    go Less is h rest = later_in f fs (q, x) (rest h)
    go Greater is h rest = later_in f fs (q, x) (rest h)
    go Equal is h rest =
        let key : f.0 ≡ q = sym (same q f.0 is) in
        let value : f.1 ≡ x = cc in
        first_in f fs (q, x) (λ i. (key i, value i))

-- an entry is found if each entry that ties with it has its value
pub is_found_if_alone : {K X : Type 0} (R : K → K → Ordering) → IsTotalOrder R → (q : K) (x : X) (es : List (K × X))
    → AllByRecursion (λ (f : K × X). R q f.0 ≡ Equal → f.1 ≡ x) es → Contains es (q, x) → find R q es ≡ Some x
is_found_if_alone R total q x [] alone among = absurd (none_in (q, x) among)
is_found_if_alone {K} {X} R total q x (f ∷ fs) alone among =
    go (R q f.0) refl (first_or_later f fs (q, x) among) (is_found_if_alone R total q x fs alone.1)
  where
    go : (o : Ordering) → R q f.0 ≡ o → (f ≡ (q, x)) ⊎ Contains fs (q, x) → (Contains fs (q, x) → find R q fs ≡ Some x) → cond (is_eq o) (Some f.1) (find R q fs) ≡ Some x
    go Equal is h rest = ap Some (alone.0 is)
    go Less is (inr inside) rest = rest inside
    go Greater is (inr inside) rest = rest inside
    go Less is (inl e) rest =
        let tied : R q f.0 ≡ Equal = ap (λ (p : K × X). R q p.0) e ∙ tied_itself total q in
        absurd (apart (sym is ∙ tied))
      where
        apart : Less ≡ Equal → ⊥
        apart h = cc
    go Greater is (inl e) rest =
        let tied : R q f.0 ≡ Equal = ap (λ (p : K × X). R q p.0) e ∙ tied_itself total q in
        absurd (apart (sym is ∙ tied))
      where
        apart : Greater ≡ Equal → ⊥
        apart h = cc

-- ---- what the lists have

-- what holds of a new entry and of the others holds of all once it is inserted at its place
put_holds : {X : Type 0} (P : List ℕ × X → Type 0) (k : List ℕ) (v : X) (es : List (List ℕ × X)) → P (k, v) → AllByRecursion P es → AllByRecursion P (put rank_cmp k v es)
put_holds P k v [] h all = (h, tt)
put_holds {X} P k v (e ∷ es) h all = go (rank_cmp k e.0) refl (put_holds P k v es h all.1)
  where
    go : (r : Ordering) → rank_cmp k e.0 ≡ r → AllByRecursion P (put rank_cmp k v es) → AllByRecursion P (by_order r ((k, v) ∷ e ∷ es) ((e.0, v) ∷ es) (e ∷ put rank_cmp k v es))
    go Less is rest = (h, (all.0, all.1))
    go Equal is rest = (subst (λ (q : List ℕ). P (q, v)) (same_rank k e.0 is) h, all.1)
    go Greater is rest = (all.0, rest)

-- the new entry is there
put_has : {X : Type 0} (k : List ℕ) (v : X) (es : List (List ℕ × X)) → Contains (put rank_cmp k v es) (k, v)
put_has k v [] = (0, omega arith, refl)
put_has {X} k v (e ∷ es) = go (rank_cmp k e.0) refl (put_has k v es)
  where
    go : (r : Ordering) → rank_cmp k e.0 ≡ r → Contains (put rank_cmp k v es) (k, v) → Contains (by_order r ((k, v) ∷ e ∷ es) ((e.0, v) ∷ es) (e ∷ put rank_cmp k v es)) (k, v)
    go Less is rest = (0, omega arith, refl)
    go Equal is rest = let same : e.0 ≡ k = sym (same_rank k e.0 is) in (0, omega arith, λ t. (same t, v))
    go Greater is rest = (suc rest.0, omega (arith, rest.1), rest.2)

-- an entry stays, or one of its rank takes its place
put_keeps : {X : Type 0} (k : List ℕ) (v : X) (es : List (List ℕ × X)) (d : List ℕ × X) → Contains es d → (k ≡ d.0) ⊎ Contains (put rank_cmp k v es) d
put_keeps k v [] d c = absurd (omega (arith, c.1))
put_keeps {X} k v (e ∷ es) d c = go (rank_cmp k e.0) refl c (put_keeps k v es d)
  where
    later : (f : List ℕ × X) (fs : List (List ℕ × X)) → Contains fs d → Contains (f ∷ fs) d
    later f fs h = (suc h.0, omega (arith, h.1), h.2)

    go : (r : Ordering) → rank_cmp k e.0 ≡ r → Contains (e ∷ es) d → (Contains es d → (k ≡ d.0) ⊎ Contains (put rank_cmp k v es) d)
        → (k ≡ d.0) ⊎ Contains (by_order r ((k, v) ∷ e ∷ es) ((e.0, v) ∷ es) (e ∷ put rank_cmp k v es)) d
    go Less is h more = inr (later (k, v) (e ∷ es) h)
    go Equal is (zero, lt, at) more = inl (same_rank k e.0 is ∙ ap (λ (f : List ℕ × X). f.0) at)
    go Equal is (suc n, lt, at) more = inr (later (e.0, v) es (n, omega arith, at))
    go Greater is (zero, lt, at) more = inr (0, omega arith, at)
    go Greater is (suc n, lt, at) more = elim (more (n, omega arith, at)) [ inl same ↦ inl same | inr h ↦ inr (later e (put rank_cmp k v es) h) ]

-- an entry of an element: under its rank, and one of some elements
abbrev IsEntryOf : {X : Type 0} → (X → List ℕ) → List X → List ℕ × X → Type 0
IsEntryOf rank xs e = (e.0 ≡ rank e.1) × Contains xs e.1

ranked_among : {X : Type 0} (rank : X → List ℕ) (xs : List X) → AllByRecursion (IsEntryOf rank xs) (ranked rank xs)
unfolding ranked put_all
ranked_among rank [] = tt
ranked_among {X} rank (x ∷ xs) =
    put_holds (IsEntryOf rank (x ∷ xs)) (rank x) x (ranked rank xs) (refl, (0, omega arith, refl))
    (all_weaker (IsEntryOf rank xs) (IsEntryOf rank (x ∷ xs)) (λ e h. (h.0, (suc h.1.0, omega (arith, h.1.1), h.1.2))) (ranked rank xs) (ranked_among rank xs))

ranked_has : {X : Type 0} (rank : X → List ℕ) (xs : List X) (x : X) → Contains xs x → (e : List ℕ × X) × Contains (ranked rank xs) e × (e.0 ≡ rank x)
unfolding ranked put_all
ranked_has rank [] x c = absurd (omega (arith, c.1))
ranked_has {X} rank (y ∷ ys) x (zero, lt, at) = ((rank y, y), put_has (rank y) y (ranked rank ys), ap rank at)
ranked_has {X} rank (y ∷ ys) x (suc n, lt, at) = go (ranked_has rank ys x (n, omega arith, at))
  where
    go : (e : List ℕ × X) × Contains (ranked rank ys) e × (e.0 ≡ rank x) → (e : List ℕ × X) × Contains (put rank_cmp (rank y) y (ranked rank ys)) e × (e.0 ≡ rank x)
    go h = elim (put_keeps (rank y) y (ranked rank ys) h.0 h.1) [
      | inl same ↦ ((rank y, y), put_has (rank y) y (ranked rank ys), same ∙ h.2)
      | inr kept ↦ (h.0, kept, h.2)
    ]

-- each element of an ordered list is one of the list that was ordered
pub in_order_among : {X : Type 0} (rank : X → List ℕ) (xs : List X) → AllByRecursion (Contains xs) (in_order rank xs)
unfolding in_order
in_order_among {X} rank xs =
    all_map (Contains xs) (λ (e : List ℕ × X). e.1) (ranked rank xs) (all_weaker (IsEntryOf rank xs) (λ (e : List ℕ × X). Contains xs e.1) (λ e h. h.1) (ranked rank xs) (ranked_among rank xs))

-- what holds of each element holds of each in order of a rank
pub all_in_order : {X : Type 0} (rank : X → List ℕ) (P : X → Type 0) (xs : List X) → AllByRecursion P xs → AllByRecursion P (in_order rank xs)
all_in_order {X} rank P xs h = all_weaker (Contains xs) P (λ x inside. of_each P xs x h inside) (in_order rank xs) (in_order_among rank xs)

-- an element of an ordered list is one of the list that was ordered
pub in_order_from : {X : Type 0} (rank : X → List ℕ) (xs : List X) (x : X) → Contains (in_order rank xs) x → Contains xs x
in_order_from rank xs x c = of_each (Contains xs) (in_order rank xs) x (in_order_among rank xs) c

-- of each rank of the elements the ordered list has one
pub in_order_has_rank : {X : Type 0} (rank : X → List ℕ) (xs : List X) (x : X) → Contains xs x → (y : X) × Contains (in_order rank xs) y × (rank y ≡ rank x)
unfolding in_order
in_order_has_rank {X} rank xs x c =
    let h = ranked_has rank xs x c in
    let e = of_each (IsEntryOf rank xs) (ranked rank xs) h.0 (ranked_among rank xs) h.1 in
    (h.0.1, contains_map (λ (e : List ℕ × X). e.1) (ranked rank xs) h.0 h.1, sym e.0 ∙ h.2)

-- an element that alone has its rank is in the list in order
pub in_order_has : {X : Type 0} (rank : X → List ℕ) (xs : List X) (x : X) → AllByRecursion (λ (y : X). rank x ≡ rank y → y ≡ x) xs → Contains xs x → Contains (in_order rank xs) x
in_order_has {X} rank xs x alone among =
    let h = in_order_has_rank rank xs x among in
    let same : h.0 ≡ x = of_each (λ (y : X). rank x ≡ rank y → y ≡ x) xs h.0 alone (in_order_from rank xs h.0 h.1) (sym h.2) in
    subst (Contains (in_order rank xs)) same h.1

-- if elements of one rank are one, the ordered list has each element
pub in_order_has_each : {X : Type 0} (rank : X → List ℕ) (xs : List X) → ((x y : X) → Contains xs x → Contains xs y → rank x ≡ rank y → x ≡ y)
    → (x : X) → Contains xs x → Contains (in_order rank xs) x
in_order_has_each {X} rank xs one x c =
    in_order_has rank xs x (to_each (λ (y : X). rank x ≡ rank y → y ≡ x) xs (λ y inside same. one y x inside c (sym same))) c

-- numbers in order are the numbers
pub numbers_in_order : (xs : List ℕ) (n : ℕ) → Contains xs n → Contains (in_order (λ (i : ℕ). i ∷ []) xs) n
numbers_in_order xs n c = in_order_has_each (λ (i : ℕ). i ∷ []) xs (λ x y p q e. ap (λ (l : List ℕ). slice_index l 0) e) n c

-- ---- the ranks rise

holds : (b : Bool) → T b → b ≡ true
holds true t = refl
holds false t = absurd t

pub is_less : (r : Ordering) → is_lt r ≡ true → r ≡ Less
is_less Less e = refl
is_less Equal e = absurd cc
is_less Greater e = absurd cc

below_each : {K X : Type 0} (R : K → K → Ordering) (k : K) (es : List (K × X)) → below_all R k es ≡ true → AllByRecursion (λ (e : K × X). R k e.0 ≡ Less) es
below_each R k [] h = tt
below_each R k (e ∷ es) h = let p = and_parts (is_lt (R k e.0)) (below_all R k es) h in (is_less (R k e.0) p.0, below_each R k es p.1)

-- the keys of entries that are sorted rise
pub sorted_rises : {K X : Type 0} (R : K → K → Ordering) (es : List (K × X)) → is_sorted R es ≡ true → EachPair (λ (d e : K × X). R d.0 e.0 ≡ Less) es
sorted_rises R [] h = tt
sorted_rises R (e ∷ es) h = let p = and_parts (below_all R e.0 es) (is_sorted R es) h in (below_each R e.0 es p.0, sorted_rises R es p.1)

each_below : {K X : Type 0} (R : K → K → Ordering) (k : K) (es : List (K × X)) → AllByRecursion (λ (e : K × X). R k e.0 ≡ Less) es → below_all R k es ≡ true
each_below R k [] h = refl
each_below R k (e ∷ es) h = and_from (is_lt (R k e.0)) (below_all R k es) (ap is_lt h.0) (each_below R k es h.1)

-- entries whose keys rise are sorted
pub rising_is_sorted : {K X : Type 0} (R : K → K → Ordering) (es : List (K × X)) → EachPair (λ (d e : K × X). R d.0 e.0 ≡ Less) es → is_sorted R es ≡ true
rising_is_sorted R [] h = refl
rising_is_sorted R (e ∷ es) h = and_from (below_all R e.0 es) (is_sorted R es) (each_below R e.0 es h.0) (rising_is_sorted R es h.1)

-- in an ordered list the ranks rise
pub in_order_rises : {X : Type 0} (rank : X → List ℕ) (xs : List X) → EachPair (λ (x y : X). rank_cmp (rank x) (rank y) ≡ Less) (in_order rank xs)
unfolding in_order
in_order_rises {X} rank xs =
    let sorted : is_sorted rank_cmp (ranked rank xs) ≡ true = ap (is_sorted rank_cmp) (ranked-entries rank xs) ∙ holds _ (entries_sorted (map_of rank xs)) in
    pairs_map (λ (x y : X). rank_cmp (rank x) (rank y) ≡ Less) (λ (e : List ℕ × X). e.1) (ranked rank xs)
    (pairs_with (IsEntryOf rank xs) (λ (d e : List ℕ × X). rank_cmp d.0 e.0 ≡ Less) (λ (d e : List ℕ × X). rank_cmp (rank d.1) (rank e.1) ≡ Less) step (ranked rank xs) (ranked_among rank xs) (sorted_rises rank_cmp (ranked rank xs) sorted))
  where
    step : (d e : List ℕ × X) → IsEntryOf rank xs d → IsEntryOf rank xs e → rank_cmp d.0 e.0 ≡ Less → rank_cmp (rank d.1) (rank e.1) ≡ Less
    step d e p q h = subst (λ (k : List ℕ). rank_cmp (rank d.1) k ≡ Less) q.0 (subst (λ (k : List ℕ). rank_cmp k e.0 ≡ Less) p.0 h)

-- ---- a list whose ranks rise

-- elements whose ranks rise, inserted under their ranks, are these
ranked_rising : {X : Type 0} (rank : X → List ℕ) (xs : List X) → EachPair (λ (x y : X). rank_cmp (rank x) (rank y) ≡ Less) xs → ranked rank xs ≡ map (λ (x : X). (rank x, x)) xs
unfolding ranked put_all
ranked_rising rank [] h = refl
ranked_rising {X} rank (x ∷ xs) h = ap (put rank_cmp (rank x) x) (ranked_rising rank xs h.1) ∙ front xs h.0
  where
    front : (ys : List X) → AllByRecursion (λ (y : X). rank_cmp (rank x) (rank y) ≡ Less) ys
        → put rank_cmp (rank x) x (map (λ (y : X). (rank y, y)) ys) ≡ (rank x, x) ∷ map (λ (y : X). (rank y, y)) ys
    front [] all = refl
    front (y ∷ ys) all = rw all.0

second_of_beside : {X : Type 0} (rank : X → List ℕ) (xs : List X) → map (λ (e : List ℕ × X). e.1) (map (λ (x : X). (rank x, x)) xs) ≡ xs
second_of_beside {X} rank xs = map-map (λ (e : List ℕ × X). e.1) (λ (x : X). (rank x, x)) xs ∙ map-id xs

-- a list whose ranks rise is in order
pub rising_stays : {X : Type 0} (rank : X → List ℕ) (xs : List X) → EachPair (λ (x y : X). rank_cmp (rank x) (rank y) ≡ Less) xs → in_order rank xs ≡ xs
unfolding in_order
rising_stays {X} rank xs h = ap (map (λ (e : List ℕ × X). e.1)) (ranked_rising rank xs h) ∙ second_of_beside rank xs

-- a list that is in order stays as it is
pub in_order_again : {X : Type 0} (rank : X → List ℕ) (xs : List X) → in_order rank (in_order rank xs) ≡ in_order rank xs
in_order_again rank xs = rising_stays rank (in_order rank xs) (in_order_rises rank xs)

-- what is kept of a list that is in order is in order
pub kept_stays : {X : Type 0} (rank : X → List ℕ) (p : X → Bool) (xs : List X) → in_order rank xs ≡ xs → in_order rank (filter p xs) ≡ filter p xs
kept_stays {X} rank p xs e =
    rising_stays rank (filter p xs)
    (pairs_filter (λ (x y : X). rank_cmp (rank x) (rank y) ≡ Less) p xs
    (subst (λ (ys : List X). EachPair (λ (x y : X). rank_cmp (rank x) (rank y) ≡ Less) ys) e (in_order_rises rank xs)))

-- ---- elements whose ranks differ

-- a new entry whose rank no other has is among the others, and all of these stay
put_permutes : {X : Type 0} (k : List ℕ) (v : X) (es : List (List ℕ × X)) → AllByRecursion (λ (e : List ℕ × X). k ≡ e.0 → ⊥) es
    → IsPermutation (v ∷ map (λ (e : List ℕ × X). e.1) es) (map (λ (e : List ℕ × X). e.1) (put rank_cmp k v es))
put_permutes k v [] apart = IsPermutation-refl (v ∷ [])
put_permutes {X} k v (e ∷ es) apart = go (rank_cmp k e.0) refl (put_permutes k v es apart.1)
  where
    values : List (List ℕ × X) → List X
    values ds = map (λ (d : List ℕ × X). d.1) ds

    go : (r : Ordering) → rank_cmp k e.0 ≡ r → IsPermutation (v ∷ values es) (values (put rank_cmp k v es))
        → IsPermutation (v ∷ e.1 ∷ values es) (values (by_order r ((k, v) ∷ e ∷ es) ((e.0, v) ∷ es) (e ∷ put rank_cmp k v es)))
    go Less is rest = IsPermutation-refl (v ∷ e.1 ∷ values es)
    go Equal is rest = absurd (apart.0 (same_rank k e.0 is))
    go Greater is rest =
        IsPermutation-trans (v ∷ e.1 ∷ values es) (e.1 ∷ v ∷ values es) (e.1 ∷ values (put rank_cmp k v es)) (IsPermutation-middle (v ∷ []) e.1 (values es))
        (IsPermutation-cons e.1 (v ∷ values es) (values (put rank_cmp k v es)) rest)

-- elements whose ranks are each another are all in the list in order, each once
pub in_order_permutes : {X : Type 0} (rank : X → List ℕ) (xs : List X) → EachPair (λ (x y : X). rank x ≡ rank y → ⊥) xs → IsPermutation xs (in_order rank xs)
unfolding in_order ranked put_all
in_order_permutes rank [] apart = IsPermutation-refl []
in_order_permutes {X} rank (x ∷ xs) apart =
    let others : AllByRecursion (λ (e : List ℕ × X). rank x ≡ e.0 → ⊥) (ranked rank xs) =
    all_weaker (IsEntryOf rank xs) (λ (e : List ℕ × X). rank x ≡ e.0 → ⊥)
    (λ e of same. of_each (λ (y : X). rank x ≡ rank y → ⊥) xs e.1 apart.0 of.1 (same ∙ of.0)) (ranked rank xs) (ranked_among rank xs) in
    IsPermutation-trans (x ∷ xs) (x ∷ in_order rank xs) (in_order rank (x ∷ xs)) (IsPermutation-cons x xs (in_order rank xs) (in_order_permutes rank xs apart.1))
    (put_permutes (rank x) x (ranked rank xs) others)

-- ---- ordering images

put_map : {X Y : Type 0} (f : X → Y) (k : List ℕ) (v : X) (es : List (List ℕ × X))
    → put rank_cmp k (f v) (map (λ (e : List ℕ × X). (e.0, f e.1)) es) ≡ map (λ (e : List ℕ × X). (e.0, f e.1)) (put rank_cmp k v es)
put_map f k v [] = refl
put_map {X} {Y} f k v (e ∷ es) = go (rank_cmp k e.0) (put_map f k v es)
  where
    image : List ℕ × X → List ℕ × Y
    image d = (d.0, f d.1)

    go : (r : Ordering) → put rank_cmp k (f v) (map image es) ≡ map image (put rank_cmp k v es)
        → by_order r ((k, f v) ∷ image e ∷ map image es) ((e.0, f v) ∷ map image es) (image e ∷ put rank_cmp k (f v) (map image es))
        ≡ map image (by_order r ((k, v) ∷ e ∷ es) ((e.0, v) ∷ es) (e ∷ put rank_cmp k v es))
    go Less h = refl
    go Equal h = refl
    go Greater h = ap (λ (ds : List (List ℕ × Y)). image e ∷ ds) h

ranked_map : {X Y : Type 0} (rank : Y → List ℕ) (f : X → Y) (xs : List X) → ranked rank (map f xs) ≡ map (λ (e : List ℕ × X). (e.0, f e.1)) (ranked (λ x. rank (f x)) xs)
unfolding ranked put_all
ranked_map rank f [] = refl
ranked_map {X} {Y} rank f (x ∷ xs) = ap (put rank_cmp (rank (f x)) (f x)) (ranked_map rank f xs) ∙ put_map f (rank (f x)) x (ranked (λ x. rank (f x)) xs)

second_of_image : {X Y : Type 0} (f : X → Y) (es : List (List ℕ × X))
    → map (λ (e : List ℕ × Y). e.1) (map (λ (e : List ℕ × X). (e.0, f e.1)) es) ≡ map f (map (λ (e : List ℕ × X). e.1) es)
second_of_image {X} {Y} f es = map-map (λ (e : List ℕ × Y). e.1) (λ (e : List ℕ × X). (e.0, f e.1)) es ∙ sym (map-map f (λ (e : List ℕ × X). e.1) es)

-- images in order are the images of the elements in the order of their images' ranks
pub in_order_map : {X Y : Type 0} (rank : Y → List ℕ) (f : X → Y) (xs : List X) → in_order rank (map f xs) ≡ map f (in_order (λ x. rank (f x)) xs)
unfolding in_order
in_order_map {X} {Y} rank f xs = ap (map (λ (e : List ℕ × Y). e.1)) (ranked_map rank f xs) ∙ second_of_image f (ranked (λ x. rank (f x)) xs)

-- of elements of one rank the first stays
first_stays : in_order (λ (x : ℕ × ℕ). x.0 ∷ []) ((2, 7) ∷ (1, 5) ∷ (2, 8) ∷ (1, 6) ∷ []) ≡ (1, 5) ∷ (2, 7) ∷ []
unfolding in_order ranked put_all
first_stays = refl
