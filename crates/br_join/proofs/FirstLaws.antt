-- The first hits of a file among hits in order: those of which the data are digested.
use Rattle.std.proofs.Common.{◌≡◌, ◌⊎◌, inl, inr, ◌≤◌, length, take, Bool, true, false, cond, Option, Some, None, List, [], ◌∷◌, filter, refl, sym, ap, subst, ◌∙◌, arith}
use Rattle.std.proofs.lemmas.Option.{same_Some}
use Rattle.std.specs.Prelude.{Contains}
use Rattle.std.specs.BTreeMap.{get_by}
use Rattle.std.specs.List.{AllByRecursion}
use Rattle.std.specs.List.Sorted.{IsStrictlySortedBy}
use Rattle.std.specs.Cmp.{tied_itself}
use Rattle.std.specs.Ordering.{ordering_reverse}
use Rattle.std.specs.declared.cmp.Ordering.TheVariants.{Less, Equal, Greater}
use Rattle.br_model.specs.Name.{FileKey, key_cmp, same_key}
use Rattle.br_model.specs.Meaning.{Hit, Hits, HasHit, hit_cmp, hits_of}
use Rattle.br_model.proofs.HitLaws.{hit_cmp_total}
use Rattle.br_model.proofs.ListLaws.{all_filter, contains_filter, first_or_later, kept_passes, none_in, of_each, to_each}
use Rattle.br_model.proofs.RisingLaws.{found_is_held, hit_was_found}
use Rattle.br_types.proofs.KeyLaws.{key_exact}
use Rattle.br_records.specs.Records.{fragments}
use Rattle.br_records.specs.Runs.{AreListed, hit_order}
use Rattle.br_records.proofs.FilesLaws.{itself}
use Rattle.br_records.proofs.SortLaws.{same_key_is_tie}
use Rattle.br_join.specs.Front.{AreFronts, AreKnownIf, AreOf, IsBegun, IsFrontOf, IsKnown, Tree, front_in, front_of, hits_for, is_short}
use Rattle.br_join.specs.Plain.{plain_bytes}
use Rattle.br_join.specs.declared.begun.Begun.{Begun}
use Rattle.br_join.specs.declared.front.Front.{Front}
use Rattle.br_join.specs.declared.fronts.Fronts.{Fronts}
use Rattle.br_join.proofs.FrontLaws.{below_open, equal_if}

-- ---- hits in order

apart : (h : Hit) → hit_order h h ≡ Less → ⊥
apart h e = let same : hit_order h h ≡ Equal = tied_itself hit_cmp_total (h.key, h.spot) in absurd cc

turned : (g h : Hit) → hit_order g h ≡ Less → hit_order h g ≡ Less → ⊥
turned g h e f = apart g (hit_cmp_total.trans (g.key, g.spot) (h.key, h.spot) (g.key, g.spot) e f)

kept_listed : (b : Bool) (x : Hit) (ys : List Hit) → AllByRecursion (λ (y : Hit). hit_order x y ≡ Less) ys → AreListed ys → AreListed (cond b (x ∷ ys) ys)
unfolding IsStrictlySortedBy
kept_listed true x ys above sorted = (above, sorted)
kept_listed false x ys above sorted = sorted

-- some of hits in order are in order
listed_filter : (p : Hit → Bool) (xs : List Hit) → AreListed xs → AreListed (filter p xs)
unfolding IsStrictlySortedBy
listed_filter p [] sorted = tt
listed_filter p (x ∷ xs) sorted = kept_listed (p x) x (filter p xs) (all_filter (λ (y : Hit). hit_order x y ≡ Less) p xs sorted.0) (listed_filter p xs sorted.1)

-- hits in order at one place are one
one_of : (hs : List Hit) → AreListed hs → (g h : Hit) → Contains hs g → Contains hs h → hit_order g h ≡ Equal → g ≡ h
unfolding IsStrictlySortedBy
one_of [] sorted g h g_in h_in tied = absurd (none_in g g_in)
one_of (x ∷ xs) sorted g h g_in h_in tied = go (λ g_later h_later. one_of xs sorted.1 g h g_later h_later tied) (first_or_later x xs g g_in) (first_or_later x xs h h_in)
  where
    later : (y : Hit) → Contains xs y → hit_order x y ≡ Less
    later y inside = of_each (λ (z : Hit). hit_order x z ≡ Less) xs y sorted.0 inside

    go : (Contains xs g → Contains xs h → g ≡ h) → (x ≡ g) ⊎ Contains xs g → (x ≡ h) ⊎ Contains xs h → g ≡ h
    go more (inl e) (inl f) = sym e ∙ f
    go more (inl e) (inr h_later) = let less : hit_order g h ≡ Less = ap (λ (y : Hit). hit_order y h) (sym e) ∙ later h h_later in absurd cc
    go more (inr g_later) (inl f) =
        let less : hit_order h g ≡ Less = ap (λ (y : Hit). hit_order y g) (sym f) ∙ later g g_later in
        let greater : hit_order g h ≡ Greater = hit_cmp_total.antisymm (g.key, g.spot) (h.key, h.spot) ∙ ap ordering_reverse less in absurd cc
    go more (inr g_later) (inr h_later) = more g_later h_later

-- each of hits in order is in the set of them
listed_has : (hs : List Hit) → AreListed hs → (h : Hit) → Contains hs h → HasHit (hits_of hs) h
listed_has hs sorted h inside =
    found_is_held hs h
    (λ g g_in key spot.
    let tied : hit_order g h ≡ Equal = (λ i. hit_cmp (key i, spot i) (h.key, h.spot)) ∙ tied_itself hit_cmp_total (h.key, h.spot) in
    ap (λ (k : Hit). k.fragment) (one_of hs sorted g h g_in inside tied)) inside

-- ---- the first of hits in order

same_first : (h x : Hit) (hs xs : List Hit) → AllByRecursion (λ (g : Hit). hit_order h g ≡ Less) hs → AllByRecursion (λ (y : Hit). hit_order x y ≡ Less) xs
    → Contains (h ∷ hs) x ⊎ AllByRecursion (λ (g : Hit). hit_order g x ≡ Less) (h ∷ hs) → (x ≡ h) ⊎ Contains xs h → x ≡ h
same_first h x hs xs h_low x_low any (inl e) = e
same_first h x hs xs h_low x_low (inr below) (inr later) = absurd (turned h x below.0 (of_each (λ (y : Hit). hit_order x y ≡ Less) xs h x_low later))
same_first h x hs xs h_low x_low (inl inside) (inr later) = go (first_or_later h hs x inside)
  where
    go : (h ≡ x) ⊎ Contains hs x → x ≡ h
    go (inl e) = sym e
    go (inr more) = absurd (turned h x (of_each (λ (y : Hit). hit_order h y ≡ Less) hs x h_low more) (of_each (λ (y : Hit). hit_order x y ≡ Less) xs h x_low later))

-- what is after the first of some hits is among the others
among_others : (x : Hit) (xs : List Hit) (g : Hit) → hit_order x g ≡ Less → Contains (x ∷ xs) g → Contains xs g
among_others x xs g less inside = go (first_or_later x xs g inside)
  where
    go : (x ≡ g) ⊎ Contains xs g → Contains xs g
    go (inl e) = absurd (apart g (ap (λ (y : Hit). hit_order y g) (sym e) ∙ less))
    go (inr more) = more

there_rest : (x : Hit) (xs gs : List Hit) → AllByRecursion (λ (g : Hit). hit_order x g ≡ Less) gs → AllByRecursion (Contains (x ∷ xs)) gs → AllByRecursion (Contains xs) gs
there_rest x xs [] above there = tt
there_rest x xs (g ∷ gs) above there = (among_others x xs g above.0 there.0, there_rest x xs gs above.1 there.1)

all_rest : (h : Hit) (hs ys : List Hit) → AllByRecursion (λ (y : Hit). hit_order h y ≡ Less) ys
    → AllByRecursion (λ (y : Hit). Contains (h ∷ hs) y ⊎ AllByRecursion (λ (g : Hit). hit_order g y ≡ Less) (h ∷ hs)) ys
    → AllByRecursion (λ (y : Hit). Contains hs y ⊎ AllByRecursion (λ (g : Hit). hit_order g y ≡ Less) hs) ys
all_rest h hs [] above each = tt
all_rest h hs (y ∷ ys) above each = (go each.0, all_rest h hs ys above.1 each.1)
  where
    go : Contains (h ∷ hs) y ⊎ AllByRecursion (λ (g : Hit). hit_order g y ≡ Less) (h ∷ hs) → Contains hs y ⊎ AllByRecursion (λ (g : Hit). hit_order g y ≡ Less) hs
    go (inl inside) = inl (among_others h hs y above.0 inside)
    go (inr below) = inr below.1

first_joined : (h x : Hit) (hs xs : List Hit) → x ≡ h → (take (length hs) xs ≡ hs) × (length hs ≤ length xs) → (take (length (h ∷ hs)) (x ∷ xs) ≡ h ∷ hs) × (length (h ∷ hs) ≤ length (x ∷ xs))
first_joined h x hs xs same rest = ((λ t. same t ∷ rest.0 t), omega (arith, rest.1))

-- Of hits in order those that are among others in order are the first of these, if all others are
-- after them.
first_of : (had xs : List Hit) → AreListed had → AreListed xs → AllByRecursion (Contains xs) had
    → AllByRecursion (λ (x : Hit). Contains had x ⊎ AllByRecursion (λ (g : Hit). hit_order g x ≡ Less) had) xs → (take (length had) xs ≡ had) × (length had ≤ length xs)
unfolding IsStrictlySortedBy
first_of [] xs h_in x_in there all = (refl, omega arith)
first_of (h ∷ hs) [] h_in x_in there all = absurd (none_in h there.0)
first_of (h ∷ hs) (x ∷ xs) h_in x_in there all =
    let same = same_first h x hs xs h_in.0 x_in.0 all.0 (first_or_later x xs h there.0) in
    let after : AllByRecursion (λ (g : Hit). hit_order x g ≡ Less) hs = subst (λ (y : Hit). AllByRecursion (λ (g : Hit). hit_order y g ≡ Less) hs) (sym same) h_in.0 in
    let below : AllByRecursion (λ (y : Hit). hit_order h y ≡ Less) xs = subst (λ (y : Hit). AllByRecursion (λ (z : Hit). hit_order y z ≡ Less) xs) same x_in.0 in
    first_joined h x hs xs same (first_of hs xs h_in.1 x_in.1 (there_rest x xs hs after there.1) (all_rest h hs xs below all.1))

-- ---- the front of a file

key_from : (a key : FileKey) → same_key a key ≡ true → a ≡ key
key_from a key e = key_exact a key (equal_if (key_cmp a key) (sym (same_key_is_tie a key) ∙ e))

-- the hits of the file that are digested are among its hits
digested_there : (hits : List Hit) (key : FileKey) (b : Begun) (begun : IsBegun (hits_of hits) key b) → AllByRecursion (Contains (hits_for key hits)) begun.had
digested_there hits key b begun =
    to_each (Contains (hits_for key hits)) begun.had (λ g inside.
    contains_filter (λ (h : Hit). same_key h.key key) hits g (hit_was_found hits g (of_each (HasHit (hits_of hits)) begun.had g begun.inside inside))
    (itself g.key key (of_each (λ (h : Hit). h.key ≡ key) begun.had g begun.of_key inside)))

-- the others are after them
others_after : (hits : List Hit) (key : FileKey) (b : Begun) (begun : IsBegun (hits_of hits) key b) (x : Hit) → x.key ≡ key → is_short key b.first_open x.spot ≡ false
    → AllByRecursion (λ (g : Hit). hit_order g x ≡ Less) begun.had
others_after hits key b begun x own above =
    to_each (λ (g : Hit). hit_order g x ≡ Less) begun.had (λ g inside.
    (λ i. hit_cmp (of_each (λ (h : Hit). h.key ≡ key) begun.had g begun.of_key inside i, g.spot) (own i, x.spot))
    ∙ below_open key b.first_open g.spot x.spot (of_each (λ (h : Hit). is_short key b.first_open h.spot ≡ true) begun.had g begun.short inside) above)

each_parted : (hits : List Hit) (key : FileKey) (b : Begun) → AreListed hits → (begun : IsBegun (hits_of hits) key b)
    → AllByRecursion (λ (x : Hit). Contains begun.had x ⊎ AllByRecursion (λ (g : Hit). hit_order g x ≡ Less) begun.had) (hits_for key hits)
each_parted hits key b sorted begun =
    to_each (λ (x : Hit). Contains begun.had x ⊎ AllByRecursion (λ (g : Hit). hit_order g x ≡ Less) begun.had) (hits_for key hits) (λ x inside. here x (kept_passes (λ (h : Hit). same_key h.key key) hits x inside))
  where
    go : (x : Hit) → x.key ≡ key → Contains begun.had x ⊎ (is_short key b.first_open x.spot ≡ false) → Contains begun.had x ⊎ AllByRecursion (λ (g : Hit). hit_order g x ≡ Less) begun.had
    go x own (inl inside) = inl inside
    go x own (inr above) = inr (others_after hits key b begun x own above)

    here : (x : Hit) → Contains hits x × (same_key x.key key ≡ true) → Contains begun.had x ⊎ AllByRecursion (λ (g : Hit). hit_order g x ≡ Less) begun.had
    here x kept = let own = key_from x.key key kept.1 in go x own (begun.whole x own (listed_has hits sorted x kept.0))

front_is : (hits : List Hit) (key : FileKey) (b : Begun) → AreListed hits → IsBegun (hits_of hits) key b → IsFrontOf b.front (hits_for key hits)
front_is hits key b sorted begun =
    let first = first_of begun.had (hits_for key hits) begun.listed (listed_filter (λ (h : Hit). same_key h.key key) hits sorted) (digested_there hits key b begun) (each_parted hits key b sorted begun) in (
      subst (λ n. n ≤ length (hits_for key hits)) (sym begun.count) first.1,
      begun.read ∙ ap (λ (gs : List Hit). plain_bytes (fragments gs)) (sym (ap (λ n. take n (hits_for key hits)) begun.count ∙ first.0)),
    )

-- what is known of the files of hits in order are fronts of these hits
pub fronts_are : (hits : List Hit) (known : Option Tree) → AreListed hits → AreKnownIf (hits_of hits) known
    → (key : FileKey) (f : Front) → front_of known key ≡ Some f → IsFrontOf f (hits_for key hits)
fronts_are hits None sorted known key f e = absurd cc
fronts_are hits (Some tree) sorted known key f e = go (get_by (key_cmp key) tree) (known key) e
  where
    go : (o : Option (Option Begun)) → IsKnown (hits_of hits) key o → front_in o ≡ Some f → IsFrontOf f (hits_for key hits)
    go None k e = absurd cc
    go (Some None) k e = absurd cc
    go (Some (Some b)) begun e = subst (λ (g : Front). IsFrontOf g (hits_for key hits)) (same_Some b.front f e) (front_is hits key b sorted begun)

-- the fronts of hits that are in order then
pub all_fronts : (hits : List Hit) (fronts : Fronts) (held : Hits) → AreListed hits → hits_of hits ≡ held → AreOf held fronts → AreFronts fronts hits
unfolding AreFronts
all_fronts hits fronts held sorted same known = λ key f e. fronts_are hits fronts.known sorted (subst (λ (s : Hits). AreKnownIf s fronts.known) (sym same) known) key f e
