-- Hits sorted by file and place, the first at each place kept, are what the set of
-- them lists.
use Rattle.std.proofs.Common.{◌≡◌, ◌==◌, Bool, true, false, cond, not, ◌&&◌, Option, Some, None, List, [], ◌∷◌, filter, pos, refl, sym, ap, subst, ◌∙◌}
use Rattle.std.specs.List.{AllByRecursion, dedup, dedup_from}
use Rattle.std.specs.List.Sorted.{IsStrictlySortedBy, IsSortedByKey, IsStableByKey, ties}
use Rattle.std.specs.Map.{keys_of}
use Rattle.std.specs.Cmp.{IsTotalOrder, on_total, unsigned_ties}
use Rattle.std.specs.Cmp.Lexicographic.{slice_cmp}
use Rattle.std.specs.Ordering.{nat_cmp, ordering_then, ordering_reverse, eq_by_cmp, is_eq, is_lt}
use Rattle.std.specs.FinMap.{find, entries, get-from_entries}
use Rattle.std.specs.declared.cmp.Ordering.{Ordering}
use Rattle.std.specs.declared.cmp.Ordering.TheVariants.{Less, Equal, Greater}
use Rattle.std.proofs.lemmas.List.Kept.{IsStrictlySortedBy-dedup}
use Rattle.br_model.specs.Name.{FileKey, key_rank, key_cmp, same_key}
use Rattle.br_model.specs.Block.{Fragment}
use Rattle.br_model.specs.Meaning.{Spot, Hit, hit_cmp, hits_of}
use Rattle.br_model.proofs.HitLaws.{hit_cmp_total, hit_cmp-IsAntisymmetric, hits_are_lookups_lem}
use Rattle.br_types.proofs.KeyLaws.{entries_of_sorted}
use Rattle.br_records.specs.Runs.{listed, hit_order, AreListed}

-- ---- two spellings of one order

then_assoc : (a b c : Ordering) → ordering_then (ordering_then a b) c ≡ ordering_then a (ordering_then b c)
then_assoc Less b c = refl
then_assoc Equal b c = refl
then_assoc Greater b c = refl

then_Equal : (a : Ordering) → ordering_then a Equal ≡ a
then_Equal Less = refl
then_Equal Equal = refl
then_Equal Greater = refl

-- the order of keys is that of their ranks
pub key_cmp_is : (a b : FileKey) → key_cmp a b ≡ slice_cmp nat_cmp (key_rank a) (key_rank b)
key_cmp_is a b =
    let id = nat_cmp a.session.id b.session.id in
    let time = nat_cmp a.session.time b.session.time in
    let index = nat_cmp a.index b.index in
    then_assoc id time index ∙ ap (λ o. ordering_then id (ordering_then time o)) (sym (then_Equal index))

-- the file and the place of a hit
abbrev pub place : Hit → FileKey × Spot
place h = (h.key, h.spot)

-- the order of pairs of a key and a place, field by field
abbrev pub place_cmp : FileKey × Spot → FileKey × Spot → Ordering
place_cmp j k = ordering_then (key_cmp j.0 k.0) (ordering_then (nat_cmp j.1.group k.1.group) (ordering_then (nat_cmp j.1.address k.1.address) (nat_cmp j.1.ordinal k.1.ordinal)))

pub place_cmp_is : (j k : FileKey × Spot) → place_cmp j k ≡ hit_cmp j k
place_cmp_is j k =
    let id = nat_cmp j.0.session.id k.0.session.id in
    let time = nat_cmp j.0.session.time k.0.session.time in
    let index = nat_cmp j.0.index k.0.index in
    let group = nat_cmp j.1.group k.1.group in
    let address = nat_cmp j.1.address k.1.address in
    let ordinal = nat_cmp j.1.ordinal k.1.ordinal in
    then_assoc (ordering_then id time) index (ordering_then group (ordering_then address ordinal))
    ∙ then_assoc id time (ordering_then index (ordering_then group (ordering_then address ordinal)))
    ∙ ap (λ o. ordering_then id (ordering_then time (ordering_then index (ordering_then group (ordering_then address o))))) (sym (then_Equal ordinal))

places_are_one : place_cmp ≡ hit_cmp
places_are_one = λ i j k. place_cmp_is j k i

pub hit_order_total : IsTotalOrder hit_order
hit_order_total = on_total place hit_cmp_total

-- ---- look-ups

first_of : List Hit → Option Fragment
first_of [] = None
first_of (h ∷ hs) = Some h.fragment

-- the hits at a file and a place
abbrev at : FileKey × Spot → Hit → Bool
at q h = eq_by_cmp hit_cmp q (place h)

find_is_first : (q : FileKey × Spot) (hs : List Hit) → find hit_cmp q (listed hs) ≡ first_of (filter (at q) hs)
unfolding first_of
find_is_first q [] = refl
find_is_first q (h ∷ hs) = go (at q h) (find_is_first q hs)
  where
    go : (b : Bool) → find hit_cmp q (listed hs) ≡ first_of (filter (at q) hs) → cond b (Some h.fragment) (find hit_cmp q (listed hs)) ≡ first_of (cond b (h ∷ filter (at q) hs) (filter (at q) hs))
    go true e = refl
    go false e = e

tie_is : (a b : Ordering) → b ≡ ordering_reverse a → (not (is_lt a) && not (is_lt b)) ≡ is_eq a
tie_is Less b e = refl
tie_is Equal b e = ap (λ o. not (is_lt o)) e
tie_is Greater b e = ap (λ o. not (is_lt o)) e

-- a hit at a file and a place
abbrev asked : FileKey × Spot → Hit
asked q = record { key = q.0; spot = q.1; fragment = record { session = q.0.session; index = pos 0; stream = pos 0; size = 0; bytes = [] } }

-- whether a hit is before another
abbrev is_before : Hit → Hit → Bool
is_before g h = is_lt (place_cmp (place g) (place h))

tied_is_at : (q : FileKey × Spot) (h : Hit) → ties is_before (asked q) h ≡ at q h
tied_is_at q h =
    tie_is (place_cmp q (place h)) (place_cmp (place h) q)
    (place_cmp_is (place h) q ∙ hit_cmp_total.antisymm (place h) q ∙ ap ordering_reverse (sym (place_cmp_is q (place h))))
    ∙ ap is_eq (place_cmp_is q (place h))

tied_are_at : (q : FileKey × Spot) (hs : List Hit) → filter (ties is_before (asked q)) hs ≡ filter (at q) hs
tied_are_at q hs = ap (λ (p : Hit → Bool). filter p hs) (λ i h. tied_is_at q h i)

-- hits that a stable sort ordered have the look-ups that they had
sorted_look_ups : (xs ys : List Hit) → IsStableByKey place place_cmp xs ys → (q : FileKey × Spot) → find hit_cmp q (listed ys) ≡ find hit_cmp q (listed xs)
sorted_look_ups xs ys stable q =
    find_is_first q ys ∙ ap first_of (sym (tied_are_at q ys) ∙ stable (asked q) ∙ tied_are_at q xs) ∙ sym (find_is_first q xs)

-- ---- repeats

both_equal : (a b : Ordering) → (is_eq a && is_eq b) ≡ is_eq (ordering_then a b)
both_equal Less b = refl
both_equal Equal b = refl
both_equal Greater b = refl

-- the test of keys holds if their order does not distinguish them
pub same_key_is_tie : (a b : FileKey) → same_key a b ≡ is_eq (key_cmp a b)
same_key_is_tie a b =
    let id = nat_cmp a.session.id b.session.id in
    let time = nat_cmp a.session.time b.session.time in
    let index = nat_cmp a.index b.index in
    let numbers : same_key a b ≡ (is_eq id && is_eq time && is_eq index) =
    λ i. unsigned_ties a.session.id b.session.id i && unsigned_ties a.session.time b.session.time i && unsigned_ties a.index b.index i in
    let whole : (is_eq id && is_eq time && is_eq index) ≡ is_eq (key_cmp a b) = simp both_equal in
    numbers ∙ whole

-- whether two places are one, number by number
abbrev pub same_spot : Spot → Spot → Bool
same_spot s t = s.group == t.group && (s.address == t.address && s.ordinal == t.ordinal)

-- whether two hits are at one place of one file
abbrev pub repeats : Hit → Hit → Bool
repeats g h = same_key g.key h.key && same_spot g.spot h.spot

-- they are if their order does not distinguish them
repeats_is : (g h : Hit) → repeats g h ≡ eq_by_cmp hit_order g h
repeats_is g h =
    let key = key_cmp g.key h.key in
    let group = nat_cmp g.spot.group h.spot.group in
    let address = nat_cmp g.spot.address h.spot.address in
    let ordinal = nat_cmp g.spot.ordinal h.spot.ordinal in
    let numbers : repeats g h ≡ (is_eq key && (is_eq group && (is_eq address && is_eq ordinal))) =
    λ i. same_key_is_tie g.key h.key i && (unsigned_ties g.spot.group h.spot.group i && (unsigned_ties g.spot.address h.spot.address i && unsigned_ties g.spot.ordinal h.spot.ordinal i)) in
    let whole : (is_eq key && (is_eq group && (is_eq address && is_eq ordinal))) ≡ is_eq (place_cmp (place g) (place h)) = simp both_equal in
    numbers ∙ whole ∙ ap is_eq (place_cmp_is (place g) (place h))

-- without repeats the look-ups are those that they were
unrepeated_look_ups : (k : Hit) (xs : List Hit) (q : FileKey × Spot) → find hit_cmp q (listed (dedup_from repeats k xs)) ≡ find hit_cmp q (listed (k ∷ xs))
unrepeated_look_ups k [] q = refl
unrepeated_look_ups k (x ∷ xs) q =
    ap (λ b. find hit_cmp q (listed (cond b (dedup_from repeats k xs) (k ∷ dedup_from repeats x xs)))) (repeats_is x k)
    ∙ go (hit_order x k) refl (unrepeated_look_ups k xs q) (unrepeated_look_ups x xs q)
  where
    same : (b : Bool) (o : Option Fragment) → cond b (Some k.fragment) o ≡ cond b (Some k.fragment) (cond b (Some x.fragment) o)
    same true o = refl
    same false o = refl

    go : (r : Ordering) → hit_order x k ≡ r
        → find hit_cmp q (listed (dedup_from repeats k xs)) ≡ find hit_cmp q (listed (k ∷ xs))
        → find hit_cmp q (listed (dedup_from repeats x xs)) ≡ find hit_cmp q (listed (x ∷ xs))
        → find hit_cmp q (listed (cond (is_eq r) (dedup_from repeats k xs) (k ∷ dedup_from repeats x xs))) ≡ find hit_cmp q (listed (k ∷ x ∷ xs))
    go Equal is h g =
        let one : place x ≡ place k = hit_cmp-IsAntisymmetric (place x) (place k) is in
        h ∙ same (at q k) (find hit_cmp q (listed xs))
        ∙ ap (λ (p : FileKey × Spot). cond (at q k) (Some k.fragment) (cond (eq_by_cmp hit_cmp q p) (Some x.fragment) (find hit_cmp q (listed xs)))) (sym one)
    go Less is h g = ap (cond (at q k) (Some k.fragment)) g
    go Greater is h g = ap (cond (at q k) (Some k.fragment)) g

kept_look_ups : (xs : List Hit) (q : FileKey × Spot) → find hit_cmp q (listed (dedup repeats xs)) ≡ find hit_cmp q (listed xs)
kept_look_ups [] q = refl
kept_look_ups (x ∷ xs) q = unrepeated_look_ups x xs q

-- ---- the set

-- hits with the same look-ups are one set
pub same_set : (xs ys : List Hit) → ((q : FileKey × Spot) → find hit_cmp q (listed ys) ≡ find hit_cmp q (listed xs)) → hits_of ys ≡ hits_of xs
same_set xs ys h = hits_are_lookups_lem (hits_of ys) (hits_of xs) (λ q. get-from_entries hit_cmp_total (listed ys) q ∙ h q ∙ sym (get-from_entries hit_cmp_total (listed xs) q))

-- hits in order without repeats, from a stable sort, are the set that they were
pub settled_same : (xs ys : List Hit) → IsStableByKey place place_cmp xs ys → hits_of (dedup repeats ys) ≡ hits_of xs
settled_same xs ys stable = same_set xs (dedup repeats ys) (λ q. kept_look_ups ys q ∙ sorted_look_ups xs ys stable q)

-- sorted hits without repeats rise
pub settled_listed : (ys : List Hit) → IsSortedByKey place place_cmp ys → AreListed (dedup repeats ys)
settled_listed ys sorted =
    IsStrictlySortedBy-dedup hit_order_total repeats_is ys
    (subst (λ (R : FileKey × Spot → FileKey × Spot → Ordering). IsSortedByKey place R ys) places_are_one sorted)

-- what holds of hits in order holds of their files and places
keys_rise : (hs : List Hit) → AreListed hs → IsStrictlySortedBy hit_cmp (keys_of (listed hs))
unfolding IsStrictlySortedBy
keys_rise [] h = tt
keys_rise (x ∷ xs) h = (all_keys xs h.0, keys_rise xs h.1)
  where
    all_keys : (hs : List Hit) → AllByRecursion (λ (y : Hit). hit_order x y ≡ Less) hs → AllByRecursion (λ (k : FileKey × Spot). hit_cmp (place x) k ≡ Less) (keys_of (listed hs))
    all_keys [] a = tt
    all_keys (y ∷ ys) a = (a.0, all_keys ys a.1)

-- hits in order are what the set of them lists
pub listed_is : (hs : List Hit) → AreListed hs → entries (hits_of hs) ≡ listed hs
listed_is hs h = entries_of_sorted hit_cmp_total (listed hs) (keys_rise hs h)
