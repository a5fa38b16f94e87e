-- The fronts of files while hits come: what was made of the first hits of a file stays right when
-- more hits are taken.
use Rattle.std.proofs.Common.{◌≡◌, ◌⊎◌, inl, inr, ℕ, ◌+◌, ◌<◌, length, take, get_or, Bool, true, false, cond, Option, Some, None, List, [], ◌∷◌, ◌++◌, nat_abs, refl, sym, ap, subst, ◌∙◌, append_assoc, length-append, arith}
use Rattle.std.specs.Prelude.{Contains, IfSome, is_some}
use Rattle.std.specs.Box.{box_value}
use Rattle.std.specs.Global.{Box}
use Rattle.std.specs.List.{AllByRecursion}
use Rattle.std.specs.List.Sorted.{IsStrictlySortedBy}
use Rattle.std.specs.Option.{option_or}
use Rattle.std.specs.BTreeMap.{get_by, is_at}
use Rattle.std.specs.Map.{lookup}
use Rattle.std.specs.Cmp.{alike_right, tied_itself}
use Rattle.std.specs.Ordering.{is_eq, is_lt, nat_cmp, ordering_reverse, ordering_then}
use Rattle.std.specs.declared.cmp.Ordering.{Ordering}
use Rattle.std.specs.declared.cmp.Ordering.TheVariants.{Less, Equal, Greater}
use Rattle.std.specs.FinMap.{get, get-from_entries}
use Rattle.std.proofs.lemmas.List.{append-nil, map-append, take_more}
use Rattle.std.proofs.lemmas.List.Elements.{Contains-append_left, Contains-append_right, Contains-push}
use Rattle.std.proofs.lemmas.Grind.{flat_map-append}
use Rattle.br_model.specs.Name.{FileKey, key_cmp}
use Rattle.br_model.specs.Block.{Fragment}
use Rattle.br_model.specs.Meaning.{Spot, Hit, Hits, HasHit, hit_cmp, hits_of, with_hits}
use Rattle.br_model.proofs.HitLaws.{hit_cmp_total, taking_keeps_what_is_held_lem}
use Rattle.br_model.proofs.ListLaws.{all_append, all_weaker, first_or_later, none_in, of_each, to_each}
use Rattle.br_model.proofs.OrderLaws.{is_less}
use Rattle.br_model.proofs.RisingLaws.{hit_was_found}
use Rattle.br_types.proofs.KeyLaws.{key_exact, key_total}
use Rattle.br_records.specs.Records.{fragments}
use Rattle.br_records.specs.Runs.{AreListed, hit_order, listed}
use Rattle.br_records.proofs.SortLaws.{place_cmp_is}
use Rattle.br_join.specs.Front.{AreKnown, AreKnownIf, Tree, IsBegun, IsCaughtUp, IsFirst, IsFolded, IsFresh, IsKnown, IsLeft, IsNext, IsNextOf, IsPassed, Waits, WaitsIf, is_before, is_past, is_short}
use Rattle.br_join.specs.Plain.{plain_bytes, plain_of}
use Rattle.br_join.specs.declared.begun.Begun.{Begun}
use Rattle.br_join.specs.declared.waiting.Waiting.{Waiting}
use Rattle.br_join.proofs.TakingLaws.{stays_taken, taken_together, was_taken, with_more, with_none}

-- ---- places

not_before_itself : (p : FileKey × Spot) → hit_cmp p p ≡ Less → ⊥
not_before_itself p e = let same : hit_cmp p p ≡ Equal = tied_itself hit_cmp_total p in absurd cc

-- the only hit of a list of one
the_one : (h g : Hit) → Contains (h ∷ []) g → h ≡ g
the_one h g inside = go (first_or_later h [] g inside)
  where
    go : (h ≡ g) ⊎ Contains [] g → h ≡ g
    go (inl e) = e
    go (inr more) = absurd (none_in g more)

-- hits in order with one more that is after all
pub listed_more : (had : List Hit) (h : Hit) → AreListed had → AllByRecursion (λ (g : Hit). hit_order g h ≡ Less) had → AreListed (had ++ h ∷ [])
unfolding IsStrictlySortedBy
listed_more [] h sorted below = (tt, tt)
listed_more (g ∷ gs) h sorted below =
    (all_append (λ (y : Hit). hit_order g y ≡ Less) gs (h ∷ []) sorted.0 (below.0, tt), listed_more gs h sorted.1 below.1)

-- ---- one more hit of the same file

all_stay : (held : Hits) (found had : List Hit) → AllByRecursion (HasHit held) had → AllByRecursion (HasHit (with_hits held found)) had
all_stay held found had inside = all_weaker (HasHit held) (HasHit (with_hits held found)) (λ h has. stays_taken held found h has) had inside

-- a hit between those that are digested and those that are not is new
is_new : (held : Hits) (h : Hit) (b : Begun) → IsBegun held h.key b → is_past h.key b.last h.spot ≡ true → is_short h.key b.first_open h.spot ≡ true
    → (o : Option Fragment) → get held (h.key, h.spot) ≡ o → o ≡ None
is_new held h b begun past short None has = refl
is_new held h b begun past short (Some f) has = go (begun.whole (record { key = h.key; spot = h.spot; fragment = f }) refl has)
  where
    go : Contains begun.had (record { key = h.key; spot = h.spot; fragment = f }) ⊎ (is_short h.key b.first_open h.spot ≡ false) → Some f ≡ None
    go (inl inside) =
        absurd (not_before_itself (h.key, h.spot)
        (of_each (λ (g : Hit). hit_cmp (g.key, g.spot) (h.key, h.spot) ≡ Less) begun.had (record { key = h.key; spot = h.spot; fragment = f }) (begun.past h.spot past) inside))
    go (inr e) = absurd cc

found_one : (h : Hit) → get (hits_of (h ∷ [])) (h.key, h.spot) ≡ Some h.fragment
found_one h =
    get-from_entries hit_cmp_total (listed (h ∷ [])) (h.key, h.spot)
    ∙ ap (λ o. cond (is_eq o) (Some h.fragment) None) (tied_itself hit_cmp_total (h.key, h.spot))

-- a new hit is then in the set
is_added : (held : Hits) (h : Hit) → get held (h.key, h.spot) ≡ None → HasHit (with_hits held (h ∷ [])) h
is_added held h new =
    taking_keeps_what_is_held_lem held (h ∷ []) (h.key, h.spot) ∙ ap (λ (o : Option Fragment). option_or o (get (hits_of (h ∷ [])) (h.key, h.spot))) new ∙ found_one h

-- ---- hits that wait

next_waits : (held : Hits) (h : Hit) (o : Option Spot) → is_short h.key o h.spot ≡ false → (v w : Waiting) → Waits held h.key o v → IsNext h v w → Waits (with_hits held (h ∷ [])) h.key o w
next_waits held h o above v w waits next = record {
  listed = subst (λ (hs : List Hit). AreListed hs) (sym next.hits) (listed_more v.hits.items h waits.listed (waits.ended h.spot next.after));
  of_key = subst (λ (hs : List Hit). AllByRecursion (λ (g : Hit). g.key ≡ h.key) hs) (sym next.hits)
      (all_append (λ (g : Hit). g.key ≡ h.key) v.hits.items (h ∷ []) waits.of_key (refl, tt));
  inside = subst (λ (hs : List Hit). AllByRecursion (HasHit (with_hits held (h ∷ []))) hs) (sym next.hits)
      (all_append (HasHit (with_hits held (h ∷ []))) v.hits.items (h ∷ []) (all_stay held (h ∷ []) v.hits.items waits.inside) (is_added held h (new (get held (h.key, h.spot)) refl), tt));
  behind = subst (λ (hs : List Hit). AllByRecursion (λ (g : Hit). is_short h.key o g.spot ≡ false) hs) (sym next.hits)
      (all_append (λ (g : Hit). is_short h.key o g.spot ≡ false) v.hits.items (h ∷ []) waits.behind (above, tt));
  last = ap (λ (s : Spot). is_short h.key o s) next.end ∙ above;
  ended = λ spot after.
      subst (λ (hs : List Hit). AllByRecursion (λ (g : Hit). hit_cmp (g.key, g.spot) (h.key, spot) ≡ Less) hs) (sym next.hits)
      (later spot (is_less (hit_cmp (h.key, h.spot) (h.key, spot)) (ap (λ (s : Spot). is_before h.key s spot) (sym next.end) ∙ after)));
  all = λ g own has outside. subst (λ (hs : List Hit). Contains hs g) (sym next.hits) (there g own outside (was_taken held (h ∷ []) g has));
}
  where
    new : (p : Option Fragment) → get held (h.key, h.spot) ≡ p → p ≡ None
    new None has = refl
    new (Some f) has =
        absurd (not_before_itself (h.key, h.spot)
        (of_each (λ (g : Hit). hit_cmp (g.key, g.spot) (h.key, h.spot) ≡ Less) v.hits.items (record { key = h.key; spot = h.spot; fragment = f }) (waits.ended h.spot next.after)
        (waits.all (record { key = h.key; spot = h.spot; fragment = f }) refl has above)))

    later : (spot : Spot) → hit_cmp (h.key, h.spot) (h.key, spot) ≡ Less → AllByRecursion (λ (g : Hit). hit_cmp (g.key, g.spot) (h.key, spot) ≡ Less) (v.hits.items ++ h ∷ [])
    later spot before =
        all_append (λ (g : Hit). hit_cmp (g.key, g.spot) (h.key, spot) ≡ Less) v.hits.items (h ∷ [])
        (all_weaker (λ (g : Hit). hit_cmp (g.key, g.spot) (h.key, h.spot) ≡ Less) (λ (g : Hit). hit_cmp (g.key, g.spot) (h.key, spot) ≡ Less)
        (λ g e. hit_cmp_total.trans (g.key, g.spot) (h.key, h.spot) (h.key, spot) e before) v.hits.items (waits.ended h.spot next.after))
        (before, tt)

    there : (g : Hit) → g.key ≡ h.key → is_short h.key o g.spot ≡ false → HasHit held g ⊎ Contains (h ∷ []) g → Contains (v.hits.items ++ h ∷ []) g
    there g own e (inl has) = Contains-append_left v.hits.items (h ∷ []) g (waits.all g own has e)
    there g own e (inr inside) = subst (λ (k : Hit). Contains (v.hits.items ++ h ∷ []) k) (the_one h g inside) (Contains-push v.hits.items h)

waits_on : (held : Hits) (h : Hit) (o : Option Spot) → is_short h.key o h.spot ≡ false → (old new : Option (Box Waiting)) → WaitsIf held h.key o old → IfSome new (IsNextOf h old)
    → WaitsIf (with_hits held (h ∷ [])) h.key o new
waits_on held h o above old None waits next = tt
waits_on held h o above None (Some w) waits next = absurd next
waits_on held h o above (Some v) (Some w) waits next = next_waits held h o above (box_value v) (box_value w) waits next

-- hits go on to wait if one comes that is before them
still_waits : (held : Hits) (h : Hit) (o : Option Spot) → is_short h.key o h.spot ≡ true → (w : Option (Box Waiting)) → WaitsIf held h.key o w → WaitsIf (with_hits held (h ∷ [])) h.key o w
still_waits held h o short None waits = tt
still_waits held h o short (Some w) waits = record {
  listed = waits.listed;
  of_key = waits.of_key;
  inside = all_stay held (h ∷ []) (box_value w).hits.items waits.inside;
  behind = waits.behind;
  last = waits.last;
  ended = waits.ended;
  all = λ g own has outside. there g own outside (was_taken held (h ∷ []) g has);
}
  where
    there : (g : Hit) → g.key ≡ h.key → is_short h.key o g.spot ≡ false → HasHit held g ⊎ Contains (h ∷ []) g → Contains (box_value w).hits.items g
    there g own e (inl has) = waits.all g own has e
    there g own e (inr inside) =
        let yet : is_short h.key o g.spot ≡ true = ap (λ (k : Hit). is_short h.key o k.spot) (sym (the_one h g inside)) ∙ short in absurd cc

-- and if one of another file comes
other_waits : (held : Hits) (h : Hit) (key : FileKey) → (h.key ≡ key → ⊥) → (o : Option Spot) (w : Option (Box Waiting)) → WaitsIf held key o w → WaitsIf (with_hits held (h ∷ [])) key o w
other_waits held h key apart o None waits = tt
other_waits held h key apart o (Some w) waits = record {
  listed = waits.listed;
  of_key = waits.of_key;
  inside = all_stay held (h ∷ []) (box_value w).hits.items waits.inside;
  behind = waits.behind;
  last = waits.last;
  ended = waits.ended;
  all = λ g own has outside. there g own outside (was_taken held (h ∷ []) g has);
}
  where
    there : (g : Hit) → g.key ≡ key → is_short key o g.spot ≡ false → HasHit held g ⊎ Contains (h ∷ []) g → Contains (box_value w).hits.items g
    there g own e (inl has) = waits.all g own has e
    there g own e (inr inside) = absurd (apart (ap (λ (k : Hit). k.key) (the_one h g inside) ∙ own))

-- the first hit that waits
one_waits : (held : Hits) (h : Hit) (b : Begun) → IsBegun held h.key b → is_past h.key b.last h.spot ≡ true → is_short h.key b.first_open h.spot ≡ true
    → (w : Waiting) → IsFirst h b.first_open w → Waits (with_hits held (h ∷ [])) h.key (Some h.spot) w
unfolding IsStrictlySortedBy
one_waits held h b begun past short w first = record {
  listed = subst (λ (hs : List Hit). AreListed hs) (sym first.hits) (tt, tt);
  of_key = subst (λ (hs : List Hit). AllByRecursion (λ (g : Hit). g.key ≡ h.key) hs) (sym first.hits) (refl, tt);
  inside = subst (λ (hs : List Hit). AllByRecursion (HasHit (with_hits held (h ∷ []))) hs) (sym first.hits)
      (is_added held h (is_new held h b begun past short (get held (h.key, h.spot)) refl), tt);
  behind = subst (λ (hs : List Hit). AllByRecursion (λ (g : Hit). is_short h.key (Some h.spot) g.spot ≡ false) hs) (sym first.hits) (ap is_lt (tied_itself hit_cmp_total (h.key, h.spot)), tt);
  last = ap (λ (s : Spot). is_before h.key s h.spot) first.end ∙ ap is_lt (tied_itself hit_cmp_total (h.key, h.spot));
  ended = λ spot after.
      subst (λ (hs : List Hit). AllByRecursion (λ (g : Hit). hit_cmp (g.key, g.spot) (h.key, spot) ≡ Less) hs) (sym first.hits)
      (is_less (hit_cmp (h.key, h.spot) (h.key, spot)) (ap (λ (s : Spot). is_before h.key s spot) (sym first.end) ∙ after), tt);
  all = λ g own has outside. subst (λ (hs : List Hit). Contains hs g) (sym first.hits) (there g own outside (was_taken held (h ∷ []) g has));
}
  where
    older : (g : Hit) → g.key ≡ h.key → is_short h.key (Some h.spot) g.spot ≡ false → Contains begun.had g ⊎ (is_short h.key b.first_open g.spot ≡ false) → Contains (h ∷ []) g
    older g own e (inl inside) =
        let less : hit_cmp (g.key, g.spot) (h.key, h.spot) ≡ Less = of_each (λ (k : Hit). hit_cmp (k.key, k.spot) (h.key, h.spot) ≡ Less) begun.had g (begun.past h.spot past) inside in
        let yet : is_short h.key (Some h.spot) g.spot ≡ true = ap (λ (k : FileKey). is_lt (hit_cmp (k, g.spot) (h.key, h.spot))) (sym own) ∙ ap is_lt less in
        absurd cc
    older g own e (inr f) = let yet : is_short h.key b.first_open g.spot ≡ true = ap (λ (o : Option Spot). is_short h.key o g.spot) first.none in absurd cc

    there : (g : Hit) → g.key ≡ h.key → is_short h.key (Some h.spot) g.spot ≡ false → HasHit held g ⊎ Contains (h ∷ []) g → Contains (h ∷ []) g
    there g own e (inl has) = older g own e (begun.whole g own has)
    there g own e (inr inside) = inside

first_waits : (held : Hits) (h : Hit) (b : Begun) → IsBegun held h.key b → is_past h.key b.last h.spot ≡ true → is_short h.key b.first_open h.spot ≡ true
    → (w : Option (Box Waiting)) → IfSome w (λ v. IsFirst h b.first_open (box_value v)) → WaitsIf (with_hits held (h ∷ [])) h.key (Some h.spot) w
first_waits held h b begun past short None first = tt
first_waits held h b begun past short (Some w) first = one_waits held h b begun past short (box_value w) first

-- a hit at or after the first that is not digested changes nothing of what is digested
pub passes : (held : Hits) (h : Hit) (b c : Begun) → IsBegun held h.key b → is_short h.key b.first_open h.spot ≡ false → IsPassed h b c → IsBegun (with_hits held (h ∷ [])) h.key c
passes held h b c begun above passed = record {
  had = begun.had;
  listed = begun.listed;
  of_key = begun.of_key;
  inside = all_stay held (h ∷ []) begun.had begun.inside;
  past = λ spot after. begun.past spot (ap (λ (o : Option Spot). is_past h.key o spot) (sym passed.last) ∙ after);
  short = subst (λ (o : Option Spot). AllByRecursion (λ (g : Hit). is_short h.key o g.spot ≡ true) begun.had) (sym passed.first_open) begun.short;
  whole = λ g own has. go g own (was_taken held (h ∷ []) g has);
  read = ap (λ f. f.read) passed.front ∙ begun.read;
  count = ap (λ f. f.count) passed.front ∙ begun.count;
  waits = subst (λ (o : Option Spot). WaitsIf (with_hits held (h ∷ [])) h.key o c.waiting) (sym passed.first_open)
      (waits_on held h b.first_open above b.waiting c.waiting begun.waits passed.waiting);
}
  where
    go : (g : Hit) → g.key ≡ h.key → HasHit held g ⊎ Contains (h ∷ []) g → Contains begun.had g ⊎ (is_short h.key c.first_open g.spot ≡ false)
    go g own (inl has) = older (begun.whole g own has)
      where
        older : Contains begun.had g ⊎ (is_short h.key b.first_open g.spot ≡ false) → Contains begun.had g ⊎ (is_short h.key c.first_open g.spot ≡ false)
        older (inl inside) = inl inside
        older (inr e) = inr (ap (λ (o : Option Spot). is_short h.key o g.spot) passed.first_open ∙ e)
    go g own (inr inside) =
        inr (ap (λ (o : Option Spot). is_short h.key o g.spot) passed.first_open ∙ ap (λ (k : Hit). is_short h.key b.first_open k.spot) (sym (the_one h g inside)) ∙ above)

-- a place before the first open one is before one that is not
pub below_open : (key : FileKey) (o : Option Spot) (s t : Spot) → is_short key o s ≡ true → is_short key o t ≡ false → hit_cmp (key, s) (key, t) ≡ Less
below_open key None s t e f = absurd cc
below_open key (Some first) s t e f = go (hit_cmp (key, t) (key, first)) refl f
  where
    less : hit_cmp (key, s) (key, first) ≡ Less
    less = is_less (hit_cmp (key, s) (key, first)) e

    go : (r : Ordering) → hit_cmp (key, t) (key, first) ≡ r → is_lt r ≡ false → hit_cmp (key, s) (key, t) ≡ Less
    go Less is e = absurd cc
    go Equal is e = alike_right hit_cmp_total (key, t) (key, first) (key, s) is ∙ less
    go Greater is e = hit_cmp_total.trans (key, s) (key, first) (key, t) less (hit_cmp_total.antisymm (key, first) (key, t) ∙ ap ordering_reverse is)

above : (key : FileKey) (o : Option Spot) (s t : Spot) → is_short key o s ≡ true → is_short key o t ≡ false → is_before key t s ≡ false
above key o s t e f = ap is_lt (hit_cmp_total.antisymm (key, t) (key, s) ∙ ap ordering_reverse (below_open key o s t e f))

-- a hit that is left is then the first that is not digested
pub leaves : (held : Hits) (h : Hit) (b c : Begun) → IsBegun held h.key b → is_past h.key b.last h.spot ≡ true → is_short h.key b.first_open h.spot ≡ true
    → IsLeft h b c → IsBegun (with_hits held (h ∷ [])) h.key c
leaves held h b c begun past short left = record {
  had = begun.had;
  listed = begun.listed;
  of_key = begun.of_key;
  inside = all_stay held (h ∷ []) begun.had begun.inside;
  past = λ spot after. begun.past spot (ap (λ (o : Option Spot). is_past h.key o spot) (sym left.last) ∙ after);
  short = shorter begun.had begun.of_key (begun.past h.spot past);
  whole = λ g own has. go g own (was_taken held (h ∷ []) g has);
  read = ap (λ f. f.read) left.front ∙ begun.read;
  count = ap (λ f. f.count) left.front ∙ begun.count;
  waits = subst (λ (o : Option Spot). WaitsIf (with_hits held (h ∷ [])) h.key o c.waiting) (sym left.first_open) (first_waits held h b begun past short c.waiting left.waiting);
}
  where
    shorter : (gs : List Hit) → AllByRecursion (λ (g : Hit). g.key ≡ h.key) gs → AllByRecursion (λ (g : Hit). hit_cmp (g.key, g.spot) (h.key, h.spot) ≡ Less) gs
        → AllByRecursion (λ (g : Hit). is_short h.key c.first_open g.spot ≡ true) gs
    shorter [] own below = tt
    shorter (g ∷ gs) own below =
        (ap (λ (o : Option Spot). is_short h.key o g.spot) left.first_open ∙ ap (λ (k : FileKey). is_lt (hit_cmp (k, g.spot) (h.key, h.spot))) (sym own.0) ∙ ap is_lt below.0, shorter gs own.1 below.1)

    go : (g : Hit) → g.key ≡ h.key → HasHit held g ⊎ Contains (h ∷ []) g → Contains begun.had g ⊎ (is_short h.key c.first_open g.spot ≡ false)
    go g own (inl has) = older (begun.whole g own has)
      where
        older : Contains begun.had g ⊎ (is_short h.key b.first_open g.spot ≡ false) → Contains begun.had g ⊎ (is_short h.key c.first_open g.spot ≡ false)
        older (inl inside) = inl inside
        older (inr e) = inr (ap (λ (o : Option Spot). is_short h.key o g.spot) left.first_open ∙ above h.key b.first_open h.spot g.spot short e)
    go g own (inr inside) =
        inr (ap (λ (o : Option Spot). is_short h.key o g.spot) left.first_open ∙ ap (λ (k : Hit). is_before h.key k.spot h.spot) (sym (the_one h g inside)) ∙ ap is_lt (tied_itself hit_cmp_total (h.key, h.spot)))

plain_more : (had : List Hit) (h : Hit) → plain_bytes (fragments (had ++ h ∷ [])) ≡ plain_bytes (fragments had) ++ plain_of (nat_abs h.fragment.stream) h.fragment.bytes
plain_more had h =
    ap plain_bytes (map-append (λ (g : Hit). g.fragment) had (h ∷ []))
    ∙ flat_map-append (λ (f : Fragment). plain_of (nat_abs f.stream) f.bytes) (fragments had) (h.fragment ∷ [])
    ∙ ap (λ (bs : List ℕ). plain_bytes (fragments had) ++ bs) (append-nil (plain_of (nat_abs h.fragment.stream) h.fragment.bytes))

-- the next hit is digested, too
pub folds : (held : Hits) (h : Hit) (b c : Begun) → IsBegun held h.key b → is_past h.key b.last h.spot ≡ true → is_short h.key b.first_open h.spot ≡ true
    → IsFolded h b c → IsBegun (with_hits held (h ∷ [])) h.key c
folds held h b c begun past short folded = record {
  had = begun.had ++ h ∷ [];
  listed = listed_more begun.had h begun.listed (begun.past h.spot past);
  of_key = all_append (λ (g : Hit). g.key ≡ h.key) begun.had (h ∷ []) begun.of_key (refl, tt);
  inside = all_append (HasHit (with_hits held (h ∷ []))) begun.had (h ∷ []) (all_stay held (h ∷ []) begun.had begun.inside)
      (is_added held h (is_new held h b begun past short (get held (h.key, h.spot)) refl), tt);
  past = λ spot after. later spot (is_less (hit_cmp (h.key, h.spot) (h.key, spot)) (ap (λ (o : Option Spot). is_past h.key o spot) (sym folded.last) ∙ after));
  short = subst (λ (o : Option Spot). AllByRecursion (λ (g : Hit). is_short h.key o g.spot ≡ true) (begun.had ++ h ∷ [])) (sym folded.first_open)
      (all_append (λ (g : Hit). is_short h.key b.first_open g.spot ≡ true) begun.had (h ∷ []) begun.short (short, tt));
  whole = λ g own has. go g own (was_taken held (h ∷ []) g has);
  read = folded.read ∙ ap (λ (bs : List ℕ). bs ++ plain_of (nat_abs h.fragment.stream) h.fragment.bytes) begun.read ∙ sym (plain_more begun.had h);
  count = folded.count ∙ ap (λ n. n + 1) begun.count ∙ sym (length-append begun.had (h ∷ []));
  waits = subst (λ (o : Option Spot). WaitsIf (with_hits held (h ∷ [])) h.key o c.waiting) (sym folded.first_open)
      (subst (λ (o : Option (Box Waiting)). WaitsIf (with_hits held (h ∷ [])) h.key b.first_open o) (sym folded.waiting) (still_waits held h b.first_open short b.waiting begun.waits));
}
  where
    later : (spot : Spot) → hit_cmp (h.key, h.spot) (h.key, spot) ≡ Less → AllByRecursion (λ (g : Hit). hit_cmp (g.key, g.spot) (h.key, spot) ≡ Less) (begun.had ++ h ∷ [])
    later spot before =
        all_append (λ (g : Hit). hit_cmp (g.key, g.spot) (h.key, spot) ≡ Less) begun.had (h ∷ [])
        (all_weaker (λ (g : Hit). hit_cmp (g.key, g.spot) (h.key, h.spot) ≡ Less) (λ (g : Hit). hit_cmp (g.key, g.spot) (h.key, spot) ≡ Less)
        (λ g e. hit_cmp_total.trans (g.key, g.spot) (h.key, h.spot) (h.key, spot) e before) begun.had (begun.past h.spot past))
        (before, tt)

    go : (g : Hit) → g.key ≡ h.key → HasHit held g ⊎ Contains (h ∷ []) g → Contains (begun.had ++ h ∷ []) g ⊎ (is_short h.key c.first_open g.spot ≡ false)
    go g own (inl has) = older (begun.whole g own has)
      where
        older : Contains begun.had g ⊎ (is_short h.key b.first_open g.spot ≡ false) → Contains (begun.had ++ h ∷ []) g ⊎ (is_short h.key c.first_open g.spot ≡ false)
        older (inl inside) = inl (Contains-append_left begun.had (h ∷ []) g inside)
        older (inr e) = inr (ap (λ (o : Option Spot). is_short h.key o g.spot) folded.first_open ∙ e)
    go g own (inr inside) = inl (subst (λ (k : Hit). Contains (begun.had ++ h ∷ []) k) (the_one h g inside) (Contains-push begun.had h))

-- a file without hits has a front of none
pub fresh_begun : (held : Hits) (key : FileKey) (b : Begun) → IsKnown held key None → IsFresh b → IsKnown held key (Some (Some b))
unfolding IsStrictlySortedBy
fresh_begun held key b none fresh = record {
  had = [];
  listed = tt;
  of_key = tt;
  inside = tt;
  past = λ spot after. tt;
  short = tt;
  whole = λ h own has. absurd (none h own has);
  read = fresh.read;
  count = fresh.count;
  waits = subst (λ (o : Option (Box Waiting)). WaitsIf held key b.first_open o) (sym fresh.waiting) tt;
}

-- hits in order, and others in order that are after them
listed_joined : (had ws : List Hit) → AreListed had → AreListed ws → AllByRecursion (λ (g : Hit). AllByRecursion (λ (w : Hit). hit_order g w ≡ Less) ws) had → AreListed (had ++ ws)
unfolding IsStrictlySortedBy
listed_joined [] ws had_in ws_in below = ws_in
listed_joined (g ∷ gs) ws had_in ws_in below = (all_append (λ (y : Hit). hit_order g y ≡ Less) gs ws had_in.0 below.0, listed_joined gs ws had_in.1 ws_in below.1)

-- the hits that wait are digested, too
pub catches_up : (held : Hits) (key : FileKey) (b c : Begun) (w : Box Waiting) → IsBegun held key b → IsCaughtUp b w c → IsBegun held key c
catches_up held key b c w begun caught = record {
  had = begun.had ++ (box_value w).hits.items;
  listed = listed_joined begun.had (box_value w).hits.items begun.listed waits.listed below;
  of_key = all_append (λ (h : Hit). h.key ≡ key) begun.had (box_value w).hits.items begun.of_key waits.of_key;
  inside = all_append (HasHit held) begun.had (box_value w).hits.items begun.inside waits.inside;
  past = λ spot after. later spot (ap (λ (o : Option Spot). is_past key o spot) (sym caught.last) ∙ after);
  short = to_each (λ (h : Hit). is_short key c.first_open h.spot ≡ true) (begun.had ++ (box_value w).hits.items) (λ h inside. ap (λ (o : Option Spot). is_short key o h.spot) caught.first_open);
  whole = λ h own has. inl (go h own has (begun.whole h own has));
  read = caught.read ∙ ap (λ (bs : List ℕ). bs ++ plain_bytes (fragments (box_value w).hits.items)) begun.read ∙ sym joined;
  count = caught.count ∙ ap (λ n. n + length (box_value w).hits.items) begun.count ∙ sym (length-append begun.had (box_value w).hits.items);
  waits = subst (λ (o : Option (Box Waiting)). WaitsIf held key c.first_open o) (sym caught.none) tt;
}
  where
    waits : Waits held key b.first_open (box_value w)
    waits = subst (λ (o : Option (Box Waiting)). WaitsIf held key b.first_open o) caught.waiting begun.waits

    below : AllByRecursion (λ (g : Hit). AllByRecursion (λ (h : Hit). hit_order g h ≡ Less) (box_value w).hits.items) begun.had
    below =
        to_each (λ (g : Hit). AllByRecursion (λ (h : Hit). hit_order g h ≡ Less) (box_value w).hits.items) begun.had (λ g g_in.
        to_each (λ (h : Hit). hit_order g h ≡ Less) (box_value w).hits.items (λ h h_in.
        (λ i. hit_cmp (of_each (λ (k : Hit). k.key ≡ key) begun.had g begun.of_key g_in i, g.spot) (of_each (λ (k : Hit). k.key ≡ key) (box_value w).hits.items h waits.of_key h_in i, h.spot))
        ∙ below_open key b.first_open g.spot h.spot
        (of_each (λ (k : Hit). is_short key b.first_open k.spot ≡ true) begun.had g begun.short g_in)
        (of_each (λ (k : Hit). is_short key b.first_open k.spot ≡ false) (box_value w).hits.items h waits.behind h_in)))

    later : (spot : Spot) → is_before key (box_value w).end spot ≡ true → AllByRecursion (λ (h : Hit). hit_cmp (h.key, h.spot) (key, spot) ≡ Less) (begun.had ++ (box_value w).hits.items)
    later spot after =
        all_append (λ (h : Hit). hit_cmp (h.key, h.spot) (key, spot) ≡ Less) begun.had (box_value w).hits.items
        (to_each (λ (h : Hit). hit_cmp (h.key, h.spot) (key, spot) ≡ Less) begun.had (λ g inside.
        hit_cmp_total.trans (g.key, g.spot) (key, (box_value w).end) (key, spot)
        ((λ i. hit_cmp (of_each (λ (k : Hit). k.key ≡ key) begun.had g begun.of_key inside i, g.spot) (key, (box_value w).end))
        ∙ below_open key b.first_open g.spot (box_value w).end (of_each (λ (k : Hit). is_short key b.first_open k.spot ≡ true) begun.had g begun.short inside) waits.last)
        (is_less (hit_cmp (key, (box_value w).end) (key, spot)) after)))
        (waits.ended spot after)

    joined : plain_bytes (fragments (begun.had ++ (box_value w).hits.items)) ≡ plain_bytes (fragments begun.had) ++ plain_bytes (fragments (box_value w).hits.items)
    joined =
        ap plain_bytes (map-append (λ (g : Hit). g.fragment) begun.had (box_value w).hits.items)
        ∙ flat_map-append (λ (f : Fragment). plain_of (nat_abs f.stream) f.bytes) (fragments begun.had) (fragments (box_value w).hits.items)

    go : (h : Hit) → h.key ≡ key → HasHit held h → Contains begun.had h ⊎ (is_short key b.first_open h.spot ≡ false) → Contains (begun.had ++ (box_value w).hits.items) h
    go h own has (inl inside) = Contains-append_left begun.had (box_value w).hits.items h inside
    go h own has (inr above) = Contains-append_right begun.had (box_value w).hits.items h (waits.all h own has above)

-- ---- one more hit of another file

pub others_stay : (held : Hits) (h : Hit) (key : FileKey) → (h.key ≡ key → ⊥) → (known : Option (Option Begun)) → IsKnown held key known → IsKnown (with_hits held (h ∷ [])) key known
others_stay held h key apart None none = λ g own has. go g own (was_taken held (h ∷ []) g has)
  where
    go : (g : Hit) → g.key ≡ key → HasHit held g ⊎ Contains (h ∷ []) g → ⊥
    go g own (inl has) = none g own has
    go g own (inr inside) = apart (ap (λ (k : Hit). k.key) (the_one h g inside) ∙ own)
others_stay held h key apart (Some None) known = tt
others_stay held h key apart (Some (Some b)) begun = record {
  had = begun.had;
  listed = begun.listed;
  of_key = begun.of_key;
  inside = all_stay held (h ∷ []) begun.had begun.inside;
  past = begun.past;
  short = begun.short;
  whole = λ g own has. go g own (was_taken held (h ∷ []) g has);
  read = begun.read;
  count = begun.count;
  waits = other_waits held h key apart b.first_open b.waiting begun.waits;
}
  where
    go : (g : Hit) → g.key ≡ key → HasHit held g ⊎ Contains (h ∷ []) g → Contains begun.had g ⊎ (is_short key b.first_open g.spot ≡ false)
    go g own (inl has) = begun.whole g own has
    go g own (inr inside) = absurd (apart (ap (λ (k : Hit). k.key) (the_one h g inside) ∙ own))

-- ---- what is known of each file

pub equal_if : (o : Ordering) → is_eq o ≡ true → o ≡ Equal
equal_if Less e = absurd cc
equal_if Equal e = refl
equal_if Greater e = absurd cc

at_itself : (key : FileKey) → is_at (key_cmp key) key ≡ true
at_itself key = ap is_eq (tied_itself key_total key)

-- one more hit is noted by what is known of its file then
noted_own : (held : Hits) (h : Hit) (old new : Tree) (v : Option Begun)
    → ((q : FileKey) → get_by (key_cmp q) new ≡ cond (is_at (key_cmp h.key) q) (Some v) (get_by (key_cmp q) old))
    → IsKnown (with_hits held (h ∷ [])) h.key (Some v) → AreKnown held old → AreKnown (with_hits held (h ∷ [])) new
noted_own held h old new v put step known q = go (is_at (key_cmp h.key) q) refl
  where
    mine : IsKnown (with_hits held (h ∷ [])) h.key (get_by (key_cmp h.key) new)
    mine =
        subst (λ (o : Option (Option Begun)). IsKnown (with_hits held (h ∷ [])) h.key o)
        (sym (put h.key ∙ ap (λ b. cond b (Some v) (get_by (key_cmp h.key) old)) (at_itself h.key))) step

    go : (b : Bool) → is_at (key_cmp h.key) q ≡ b → IsKnown (with_hits held (h ∷ [])) q (get_by (key_cmp q) new)
    go true e = subst (λ (k : FileKey). IsKnown (with_hits held (h ∷ [])) k (get_by (key_cmp k) new)) (key_exact h.key q (equal_if (key_cmp h.key q) e)) mine
    go false e =
        subst (λ (o : Option (Option Begun)). IsKnown (with_hits held (h ∷ [])) q o)
        (sym (put q ∙ ap (λ b. cond b (Some v) (get_by (key_cmp q) old)) e))
        (others_stay held h q (λ same. let own : is_at (key_cmp h.key) q ≡ true = ap (λ (k : FileKey). is_at (key_cmp h.key) k) (sym same) ∙ at_itself h.key in absurd cc) (get_by (key_cmp q) old) (known q))

pub noted : (held : Hits) (h : Hit) (k : FileKey) (old new : Tree) (v : Option Begun) (before : Option (Option Begun)) → k ≡ h.key
    → ((q : FileKey) → get_by (key_cmp q) new ≡ cond (is_at (key_cmp k) q) (Some v) (get_by (key_cmp q) old)) → before ≡ get_by (key_cmp k) old
    → (IsKnown held h.key before → IsKnown (with_hits held (h ∷ [])) h.key (Some v)) → AreKnown held old → AreKnown (with_hits held (h ∷ [])) new
noted held h k old new v before own put had step known =
    noted_own held h old new v
    (subst (λ (j : FileKey). (q : FileKey) → get_by (key_cmp q) new ≡ cond (is_at (key_cmp j) q) (Some v) (get_by (key_cmp q) old)) own put)
    (step (subst (λ (o : Option (Option Begun)). IsKnown held h.key o) (sym (had ∙ ap (λ (j : FileKey). get_by (key_cmp j) old) own)) (known h.key))) known

-- what is known of one file is learned anew
pub kept : (held : Hits) (k : FileKey) (old new : Tree) (v : Option Begun) (before : Option (Option Begun))
    → ((q : FileKey) → get_by (key_cmp q) new ≡ cond (is_at (key_cmp k) q) (Some v) (get_by (key_cmp q) old)) → before ≡ get_by (key_cmp k) old
    → (IsKnown held k before → IsKnown held k (Some v)) → AreKnown held old → AreKnown held new
kept held k old new v before put had step known q = go (is_at (key_cmp k) q) refl
  where
    mine : IsKnown held k (get_by (key_cmp k) new)
    mine =
        subst (λ (o : Option (Option Begun)). IsKnown held k o) (sym (put k ∙ ap (λ b. cond b (Some v) (get_by (key_cmp k) old)) (at_itself k)))
        (step (subst (λ (o : Option (Option Begun)). IsKnown held k o) (sym had) (known k)))

    go : (b : Bool) → is_at (key_cmp k) q ≡ b → IsKnown held q (get_by (key_cmp q) new)
    go true e = subst (λ (j : FileKey). IsKnown held j (get_by (key_cmp j) new)) (key_exact k q (equal_if (key_cmp k q) e)) mine
    go false e = subst (λ (o : Option (Option Begun)). IsKnown held q o) (sym (put q ∙ ap (λ b. cond b (Some v) (get_by (key_cmp q) old)) e)) (known q)

-- the next of some hits is noted after those before it
pub noted_more : (held : Hits) (hs : List Hit) (i : ℕ) (h : Hit) (new : Tree) → i < length hs → h ≡ get_or hs i h
    → AreKnown (with_hits (with_hits held (take i hs)) (h ∷ [])) new → AreKnown (with_hits held (take (i + 1) hs)) new
noted_more held hs i h new lt at known =
    subst (λ (s : Hits). AreKnown s new)
    (with_more held (take i hs) (h ∷ []) ∙ ap (λ (gs : List Hit). with_hits held gs) (sym (take_more hs i h lt ∙ ap (λ (g : Hit). take i hs ++ g ∷ []) (sym at)))) known

-- of no hits nothing is known
pub none_known : (tree : Tree) → tree.entries ≡ [] → AreKnown (hits_of []) tree
none_known tree nil key =
    subst (λ (es : List (FileKey × Option Begun)). IsKnown (hits_of []) key (lookup (is_at (key_cmp key)) es)) (sym nil) (λ h own has. none_in h (hit_was_found [] h has))

-- what is known after hits that were noted from nothing is known of these hits
pub known_first : (hs : List Hit) (known : Option Tree) → AreKnownIf (with_hits (hits_of []) hs) known → AreKnownIf (hits_of hs) known
known_first hs known all = subst (λ (s : Hits). AreKnownIf s known) (taken_together [] hs) all

pub none_if : (o : Option (Option Begun)) → is_some o ≡ false → o ≡ None
none_if None e = refl
none_if (Some b) e = absurd cc

-- before the first of some hits the set is what it was
pub noted_none : (held : Hits) (tree : Tree) → AreKnown held tree → AreKnown (with_hits held []) tree
noted_none held tree known = subst (λ (s : Hits). AreKnown s tree) (sym (with_none held)) known

-- ---- orders of places

-- the one place of a file is before the other, field by field or as a whole
pub before_is : (key : FileKey) (s t : Spot)
    → is_lt (ordering_then (nat_cmp s.group t.group) (ordering_then (nat_cmp s.address t.address) (nat_cmp s.ordinal t.ordinal))) ≡ is_before key s t
before_is key s t =
    let order = ordering_then (nat_cmp s.group t.group) (ordering_then (nat_cmp s.address t.address) (nat_cmp s.ordinal t.ordinal)) in
    ap is_lt (ap (λ (o : Ordering). ordering_then o order) (sym (tied_itself key_total key)) ∙ place_cmp_is (key, s) (key, t))

-- ---- data that are digested one after another

pub plain_next : (bs cs ds : List ℕ) (hs : List Hit) (i : ℕ) (h : Hit) → i < length hs → h ≡ get_or hs i h → cs ≡ bs ++ plain_bytes (fragments (take i hs))
    → ds ≡ cs ++ plain_of (nat_abs h.fragment.stream) h.fragment.bytes → ds ≡ bs ++ plain_bytes (fragments (take (i + 1) hs))
plain_next bs cs ds hs i h lt at so_far next =
    next ∙ ap (λ (xs : List ℕ). xs ++ plain_of (nat_abs h.fragment.stream) h.fragment.bytes) so_far
    ∙ append_assoc bs (plain_bytes (fragments (take i hs))) (plain_of (nat_abs h.fragment.stream) h.fragment.bytes)
    ∙ ap (λ (xs : List ℕ). bs ++ xs) (sym (plain_more (take i hs) h) ∙ ap (λ (gs : List Hit). plain_bytes (fragments gs)) (sym (take_more hs i h lt ∙ ap (λ (g : Hit). take i hs ++ g ∷ []) (sym at))))

pub count_next : (n m k : ℕ) (hs : List Hit) (i : ℕ) (h : Hit) → i < length hs → h ≡ get_or hs i h → m ≡ n + length (take i hs) → k ≡ m + 1 → k ≡ n + length (take (i + 1) hs)
count_next n m k hs i h lt at so_far next =
    let more : length (take (i + 1) hs) ≡ length (take i hs) + 1 =
    ap (λ (gs : List Hit). length gs) (take_more hs i h lt ∙ ap (λ (g : Hit). take i hs ++ g ∷ []) (sym at)) ∙ length-append (take i hs) (h ∷ []) in
    next ∙ ap (λ x. x + 1) so_far ∙ (let e : n + length (take i hs) + 1 ≡ n + (length (take i hs) + 1) = omega arith in e) ∙ ap (λ x. n + x) (sym more)
