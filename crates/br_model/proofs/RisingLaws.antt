-- Hits of one file whose places rise: a set of hits lists their fragments in that order.
use Rattle.std.proofs.Common.{◌≡◌, ℕ, Bool, true, false, ◌&&◌, cond, eqb, List, [], ◌∷◌, ◌++◌, map, Option, Some, None, refl, sym, ap, subst, ◌∙◌}
use Rattle.std.proofs.lemmas.Bool.{eqb-true, eq-eqb, and_parts}
use Rattle.std.proofs.lemmas.Option.{same_Some}
use Rattle.std.specs.Prelude.{Contains, T}
use Rattle.std.specs.List.{AllByRecursion}
use Rattle.std.specs.FinMap.{entries, entries_sorted, find, get, get-entries, get-from_entries}
use Rattle.std.specs.FinMap.Entries.{where_key, is_sorted, is_sorted-where_key, find-where_key, same_entries}
use Rattle.std.specs.Cmp.{tied_itself, nat_cmp_total}
use Rattle.std.specs.Cmp.Lexicographic.{slice_cmp}
use Rattle.std.specs.Ordering.{nat_cmp, ordering_then}
use Rattle.std.specs.declared.cmp.Ordering.TheVariants.{Less, Equal}
use Rattle.br_model.specs.Name.{FileKey, key_rank, same_key}
use Rattle.br_model.specs.Block.{Fragment}
use Rattle.br_model.specs.Meaning.{Spot, spot_rank, Hit, Hits, HasHit, hit_cmp, hit_rank, hit_entry, hits_of}
use Rattle.br_model.specs.Restored.{HitList, fragments_for}
use Rattle.br_model.proofs.HitLaws.{hit_cmp_total, hit_cmp-IsAntisymmetric}
use Rattle.br_model.proofs.ListLaws.{all_map, contains_map, from_image, of_each, to_each}
use Rattle.br_model.proofs.OrderLaws.{found_is_in, is_found_if_alone, not_below_itself, rank_cmp, rising_is_sorted}
use Rattle.br_model.proofs.PairLaws.{EachPair, one_if_unrelated, pairs_map, pairs_with}
use mathlib.Core.List.{map-map}

-- the one place is before the other
abbrev pub IsBefore : Spot → Spot → Type 0
IsBefore s t = slice_cmp nat_cmp (spot_rank s) (spot_rank t) ≡ Less

-- the place of the one hit is before that of the other
abbrev pub IsHitBefore : Hit → Hit → Type 0
IsHitBefore g h = IsBefore g.spot h.spot

-- each hit is before those after it
abbrev pub Rise : List Hit → Type 0
Rise hs = EachPair IsHitBefore hs

-- keys that the test takes for one are one
pub same_key_is : (a b : FileKey) → same_key a b ≡ true → a ≡ b
same_key_is a b e =
    let outer = and_parts (eqb a.session.id b.session.id && eqb a.session.time b.session.time) (eqb a.index b.index) e in
    let inner = and_parts (eqb a.session.id b.session.id) (eqb a.session.time b.session.time) outer.0 in
    let id_is = eqb-true a.session.id b.session.id inner.0 in
    let time_is = eqb-true a.session.time b.session.time inner.1 in
    let index_is = eqb-true a.index b.index outer.1 in
    λ i. record { session = record { id = id_is i; time = time_is i }; index = index_is i }

-- a key is the same as itself
pub same_key_self : (a : FileKey) → same_key a a ≡ true
same_key_self a = rw (eq-eqb a.session.id a.session.id refl, eq-eqb a.session.time a.session.time refl, eq-eqb a.index a.index refl) refl

-- lists with one front are compared by what follows it
after_front : (xs ys zs : List ℕ) → slice_cmp nat_cmp (xs ++ ys) (xs ++ zs) ≡ slice_cmp nat_cmp ys zs
after_front [] ys zs = refl
after_front (x ∷ xs) ys zs = ap (λ o. ordering_then o (slice_cmp nat_cmp (xs ++ ys) (xs ++ zs))) (tied_itself nat_cmp_total x) ∙ after_front xs ys zs

-- places of one file are in order as their spots are
before_as_spots : (j k : FileKey × Spot) → j.0 ≡ k.0 → IsBefore j.1 k.1 → hit_cmp j k ≡ Less
before_as_spots j k same before =
    ap (λ (a : FileKey). slice_cmp nat_cmp (key_rank a ++ spot_rank j.1) (hit_rank k)) same ∙ after_front (key_rank k.0) (spot_rank j.1) (spot_rank k.1) ∙ before

-- the entries of hits of one file that rise are in order
entries_are_sorted : (key : FileKey) (hs : List Hit) → AllByRecursion (λ (h : Hit). h.key ≡ key) hs → Rise hs → T (is_sorted hit_cmp (map hit_entry hs))
entries_are_sorted key hs keys rise = subst T (sym (rising_is_sorted hit_cmp (map hit_entry hs) (pairs_map (λ (d e : (FileKey × Spot) × Fragment). hit_cmp d.0 e.0 ≡ Less) hit_entry hs rises))) tt
  where
    rises : EachPair (λ (g h : Hit). hit_cmp (g.key, g.spot) (h.key, h.spot) ≡ Less) hs
    rises =
        pairs_with (λ (h : Hit). h.key ≡ key) IsHitBefore (λ (g h : Hit). hit_cmp (g.key, g.spot) (h.key, h.spot) ≡ Less)
        (λ g h p q before. before_as_spots (g.key, g.spot) (h.key, h.spot) (p ∙ sym q) before) hs keys rise

-- If a set has exactly these hits of a file, and their places rise, the file's fragments are
-- theirs, in this order.
pub fragments_of_rising : (key : FileKey) (set : Hits) (hs : List Hit) → AllByRecursion (λ (h : Hit). h.key ≡ key) hs → Rise hs → AllByRecursion (HasHit set) hs
    → ((h : Hit) → h.key ≡ key → HasHit set h → Contains hs h)
    → fragments_for key (entries set) ≡ map (λ (h : Hit). h.fragment) hs
unfolding fragments_for
fragments_of_rising key set hs keys rise has all =
    ap (map (λ (e : (FileKey × Spot) × Fragment). e.1))
    (same_entries hit_cmp hit_cmp_total hit_cmp-IsAntisymmetric (where_key hit_cmp p (entries set)) es
    (is_sorted-where_key hit_cmp p (entries set) (entries_sorted set)) (entries_are_sorted key hs keys rise)
    (λ q. find-where_key hit_cmp p q (alike q) (entries set) ∙ ap (λ o. cond (p q) o None) (sym (get-entries set q)) ∙ looked q (find hit_cmp q es) refl))
    ∙ map-map (λ (e : (FileKey × Spot) × Fragment). e.1) hit_entry hs
  where
    p : FileKey × Spot → Bool
    p k = same_key k.0 key

    es : HitList
    es = map hit_entry hs

    alike : (q x : FileKey × Spot) → hit_cmp q x ≡ Equal → p x ≡ p q
    alike q x e = ap p (sym (hit_cmp-IsAntisymmetric q x e))

    entries_have : AllByRecursion (λ (e : (FileKey × Spot) × Fragment). get set e.0 ≡ Some e.1) es
    entries_have = all_map (λ (e : (FileKey × Spot) × Fragment). get set e.0 ≡ Some e.1) hit_entry hs has

    entries_key : AllByRecursion (λ (e : (FileKey × Spot) × Fragment). e.0.0 ≡ key) es
    entries_key = all_map (λ (e : (FileKey × Spot) × Fragment). e.0.0 ≡ key) hit_entry hs keys

    -- a hit of the set at this file's place is found among the hits
    found : (q : FileKey × Spot) (f : Fragment) → q.0 ≡ key → get set q ≡ Some f → find hit_cmp q es ≡ Some f
    found q f is e =
        is_found_if_alone hit_cmp hit_cmp_total q f es
        (to_each (λ (x : (FileKey × Spot) × Fragment). hit_cmp q x.0 ≡ Equal → x.1 ≡ f) es (λ x inside tied.
        let there : get set x.0 ≡ Some x.1 = of_each (λ (y : (FileKey × Spot) × Fragment). get set y.0 ≡ Some y.1) es x entries_have inside in
        same_Some x.1 f (sym there ∙ ap (get set) (sym (hit_cmp-IsAntisymmetric q x.0 tied)) ∙ e)))
        (contains_map hit_entry hs (record { key = q.0; spot = q.1; fragment = f }) (all (record { key = q.0; spot = q.1; fragment = f }) is e))

    clash : (f : Fragment) → None ≡ Some f → ⊥
    clash f h = cc

    looked : (q : FileKey × Spot) (o : Option Fragment) → find hit_cmp q es ≡ o → cond (p q) (get set q) None ≡ find hit_cmp q es
    looked q (Some f) e =
        let inside : Contains es (q, f) = found_is_in hit_cmp hit_cmp-IsAntisymmetric q f es e in
        let there : get set q ≡ Some f = of_each (λ (y : (FileKey × Spot) × Fragment). get set y.0 ≡ Some y.1) es (q, f) entries_have inside in
        let is : q.0 ≡ key = of_each (λ (y : (FileKey × Spot) × Fragment). y.0.0 ≡ key) es (q, f) entries_key inside in
        let passes : p q ≡ true = ap (λ (a : FileKey). same_key a key) is ∙ same_key_self key in
        ap (λ b. cond b (get set q) None) passes ∙ there ∙ sym e
    looked q None e = missing (p q) refl (get set q) refl ∙ sym e
      where
        missing : (b : Bool) → p q ≡ b → (o : Option Fragment) → get set q ≡ o → cond b (get set q) None ≡ None
        missing true passes (Some f) there = absurd (clash f (sym e ∙ found q f (same_key_is q.0 key passes) there))
        missing true passes None there = there
        missing false passes o there = refl

-- ---- hits as they were found

-- a hit of the set of found hits was found
pub hit_was_found : (found : List Hit) (h : Hit) → HasHit (hits_of found) h → Contains found h
hit_was_found found h has =
    let entry : Contains (map hit_entry found) (hit_entry h) =
    found_is_in hit_cmp hit_cmp-IsAntisymmetric (h.key, h.spot) h.fragment (map hit_entry found) (sym (get-from_entries hit_cmp_total (map hit_entry found) (h.key, h.spot)) ∙ has) in
    let of = from_image hit_entry found (hit_entry h) entry in
    subst (Contains found) (same_hit of.0 h of.2) of.1
  where
    same_hit : (g k : Hit) → hit_entry g ≡ hit_entry k → g ≡ k
    same_hit g k e = λ i. record { key = (e i).0.0; spot = (e i).0.1; fragment = (e i).1 }

-- a found hit is in the set of the found hits, if those at its place are of its fragment
pub found_is_held : (found : List Hit) (h : Hit) → ((g : Hit) → Contains found g → g.key ≡ h.key → g.spot ≡ h.spot → g.fragment ≡ h.fragment) → Contains found h → HasHit (hits_of found) h
found_is_held found h one inside =
    let alone : AllByRecursion (λ (g : Hit). hit_cmp (h.key, h.spot) (g.key, g.spot) ≡ Equal → g.fragment ≡ h.fragment) found =
    to_each (λ (g : Hit). hit_cmp (h.key, h.spot) (g.key, g.spot) ≡ Equal → g.fragment ≡ h.fragment) found (λ g among tied.
    let place : ◌≡◌ {A = FileKey × Spot} (g.key, g.spot) (h.key, h.spot) = sym (hit_cmp-IsAntisymmetric (h.key, h.spot) (g.key, g.spot) tied) in
    one g among (ap (λ (k : FileKey × Spot). k.0) place) (ap (λ (k : FileKey × Spot). k.1) place)) in
    get-from_entries hit_cmp_total (map hit_entry found) (h.key, h.spot)
    ∙ is_found_if_alone hit_cmp hit_cmp_total (h.key, h.spot) h.fragment (map hit_entry found)
    (all_map (λ (e : (FileKey × Spot) × Fragment). hit_cmp (h.key, h.spot) e.0 ≡ Equal → e.1 ≡ h.fragment) hit_entry found alone)
    (contains_map hit_entry found h inside)

-- of hits whose places rise two at one place are one
pub alone_at_place : (hs : List Hit) (g h : Hit) → Rise hs → Contains hs g → Contains hs h → g.spot ≡ h.spot → g ≡ h
alone_at_place hs g h rise g_in h_in same = one_if_unrelated IsHitBefore hs g h rise g_in h_in (not_before g h same) (not_before h g (sym same))
  where
    not_before : (x y : Hit) → x.spot ≡ y.spot → IsHitBefore x y → ⊥
    not_before x y at before = not_below_itself (spot_rank x.spot) (ap (λ (s : Spot). rank_cmp (spot_rank x.spot) (spot_rank s)) at ∙ before)

-- If the found hits of a file are these, and their places rise, the set of the found hits lists the
-- file's fragments in this order.
pub fragments_of_found : (key : FileKey) (found hs : List Hit) → AllByRecursion (λ (h : Hit). h.key ≡ key) hs → Rise hs → AllByRecursion (λ (h : Hit). Contains found h) hs
    → ((h : Hit) → h.key ≡ key → Contains found h → Contains hs h)
    → fragments_for key (entries (hits_of found)) ≡ map (λ (h : Hit). h.fragment) hs
fragments_of_found key found hs keys rise among all =
    fragments_of_rising key (hits_of found) hs keys rise
    (to_each (λ (h : Hit). HasHit (hits_of found) h) hs has)
    (λ h is in_set. all h is (hit_was_found found h in_set))
  where
    has : (h : Hit) → Contains hs h → HasHit (hits_of found) h
    has h inside =
        let here : h.key ≡ key = of_each (λ (g : Hit). g.key ≡ key) hs h keys inside in
        let there : Contains found h = of_each (λ (g : Hit). Contains found g) hs h among inside in
        found_is_held found h (λ g g_found same at. ap (λ (k : Hit). k.fragment) (alone_at_place hs g h rise (all g (same ∙ here) g_found) inside at)) there
