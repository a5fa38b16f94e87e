-- Sets of hits that are taken one after the other.
use Rattle.std.proofs.Common.{◌≡◌, ◌⊎◌, Bool, true, false, cond, Option, Some, None, List, [], ◌∷◌, ◌++◌, refl, sym, ap, ◌∙◌, inl, inr}
use Rattle.std.proofs.lemmas.Option.{same_Some}
use Rattle.std.specs.Prelude.{Contains}
use Rattle.std.specs.Option.{option_or}
use Rattle.std.specs.Ordering.{eq_by_cmp}
use Rattle.std.specs.FinMap.{find, get, get-from_entries}
use Rattle.br_model.specs.Name.{FileKey}
use Rattle.br_model.specs.Block.{Fragment}
use Rattle.br_model.specs.Meaning.{Spot, Hit, Hits, HasHit, AreAmong, hit_cmp, hits_of, with_hits}
use Rattle.br_model.proofs.HitLaws.{hit_cmp_total, hits_are_lookups_lem, taking_keeps_what_is_held_lem}
use Rattle.br_model.proofs.RisingLaws.{found_is_held, hit_was_found}
use Rattle.br_join.specs.Joining.{Joining, with_batch}
use Rattle.br_records.specs.Runs.{listed}
use Rattle.br_records.proofs.SortLaws.{place}
use Rattle.br_join.proofs.RoomLaws.{filled_more, filled_none}

pub find_joined : (xs ys : List Hit) (q : FileKey × Spot) → find hit_cmp q (listed (xs ++ ys)) ≡ option_or (find hit_cmp q (listed xs)) (find hit_cmp q (listed ys))
find_joined [] ys q = refl
find_joined (x ∷ xs) ys q = go (eq_by_cmp hit_cmp q (place x)) (find_joined xs ys q)
  where
    go : (b : Bool) → find hit_cmp q (listed (xs ++ ys)) ≡ option_or (find hit_cmp q (listed xs)) (find hit_cmp q (listed ys))
        → cond b (Some x.fragment) (find hit_cmp q (listed (xs ++ ys))) ≡ option_or (cond b (Some x.fragment) (find hit_cmp q (listed xs))) (find hit_cmp q (listed ys))
    go true h = refl
    go false h = h

-- taking hits one list after the other is taking the joined lists
pub taken_together : (xs ys : List Hit) → with_hits (hits_of xs) ys ≡ hits_of (xs ++ ys)
taken_together xs ys = hits_are_lookups_lem (with_hits (hits_of xs) ys) (hits_of (xs ++ ys)) (λ q.
    taking_keeps_what_is_held_lem (hits_of xs) ys q
    ∙ (λ i. option_or (get-from_entries hit_cmp_total (listed xs) q i) (get-from_entries hit_cmp_total (listed ys) q i))
    ∙ sym (get-from_entries hit_cmp_total (listed (xs ++ ys)) q ∙ find_joined xs ys q))

-- a list that is longer by some hits has them after what it had
pub took_more : (held : Hits) (before after hits : List Hit) → hits_of before ≡ held → after ≡ before ++ hits → hits_of after ≡ with_hits held hits
took_more held before after hits had is = ap hits_of is ∙ sym (taken_together before hits) ∙ ap (λ (s : Hits). with_hits s hits) had

-- ---- none, and one list after the other

pub or_none : (o : Option Fragment) → option_or o None ≡ o
or_none None = refl
or_none (Some f) = refl

pub or_each : (o p r : Option Fragment) → option_or (option_or o p) r ≡ option_or o (option_or p r)
or_each None p r = refl
or_each (Some f) p r = refl

-- to take no hits changes nothing
pub with_none : (held : Hits) → with_hits held [] ≡ held
with_none held = hits_are_lookups_lem (with_hits held []) held (λ q.
    taking_keeps_what_is_held_lem held [] q ∙ ap (option_or (get held q)) (get-from_entries hit_cmp_total (listed []) q) ∙ or_none (get held q))

-- to take hits one list after the other is to take the joined lists
pub with_more : (held : Hits) (xs ys : List Hit) → with_hits (with_hits held xs) ys ≡ with_hits held (xs ++ ys)
with_more held xs ys = hits_are_lookups_lem (with_hits (with_hits held xs) ys) (with_hits held (xs ++ ys)) (λ q.
    taking_keeps_what_is_held_lem (with_hits held xs) ys q
    ∙ ap (λ (o : Option Fragment). option_or o (get (hits_of ys) q)) (taking_keeps_what_is_held_lem held xs q)
    ∙ or_each (get held q) (get (hits_of xs) q) (get (hits_of ys) q)
    ∙ ap (option_or (get held q)) (sym (taking_keeps_what_is_held_lem (hits_of xs) ys q) ∙ ap (λ (s : Hits). get s q) (taken_together xs ys))
    ∙ sym (taking_keeps_what_is_held_lem held (xs ++ ys) q))

pub batch_none : (j : Joining) → with_batch j [] ≡ j
batch_none j = λ t. record { pieces = j.pieces; names = j.names; hits = with_none j.hits t; room = filled_none j.room t }

pub batch_more : (j : Joining) (xs ys : List Hit) → with_batch (with_batch j xs) ys ≡ with_batch j (xs ++ ys)
batch_more j xs ys = λ t. record { pieces = j.pieces; names = j.names; hits = with_more j.hits xs ys t; room = filled_more j.room xs ys t }

-- ---- what a set has that took hits

-- what a set has it has with more hits
pub stays_taken : (held : Hits) (found : List Hit) (h : Hit) → HasHit held h → HasHit (with_hits held found) h
stays_taken held found h has =
    taking_keeps_what_is_held_lem held found (h.key, h.spot) ∙ ap (λ (o : Option Fragment). option_or o (get (hits_of found) (h.key, h.spot))) has

-- with more hits a set has what it had, and what was found
pub was_taken : (held : Hits) (found : List Hit) (h : Hit) → HasHit (with_hits held found) h → HasHit held h ⊎ Contains found h
was_taken held found h has = go (get held (h.key, h.spot)) refl
  where
    here : option_or (get held (h.key, h.spot)) (get (hits_of found) (h.key, h.spot)) ≡ Some h.fragment
    here = sym (taking_keeps_what_is_held_lem held found (h.key, h.spot)) ∙ has

    go : (o : Option Fragment) → get held (h.key, h.spot) ≡ o → HasHit held h ⊎ Contains found h
    go (Some f) is = inl (is ∙ sym (ap (λ (p : Option Fragment). option_or p (get (hits_of found) (h.key, h.spot))) is) ∙ here)
    go None is = inr (hit_was_found found h (sym (ap (λ (p : Option Fragment). option_or p (get (hits_of found) (h.key, h.spot))) is) ∙ here))

-- of hits of one set those that are found are taken
pub is_taken : (set held : Hits) (found : List Hit) (h : Hit) → AreAmong held set → ((g : Hit) → Contains found g → HasHit set g) → Contains found h → HasHit (with_hits held found) h
is_taken set held found h among each inside =
    taking_keeps_what_is_held_lem held found (h.key, h.spot) ∙ go (get held (h.key, h.spot)) refl
  where
    one : (g : Hit) → Contains found g → g.key ≡ h.key → g.spot ≡ h.spot → g.fragment ≡ h.fragment
    one g g_in key spot =
        let place : ◌≡◌ {A = FileKey × Spot} (g.key, g.spot) (h.key, h.spot) = λ t. (key t, spot t) in
        same_Some g.fragment h.fragment (sym (each g g_in) ∙ ap (get set) place ∙ each h inside)

    go : (o : Option Fragment) → get held (h.key, h.spot) ≡ o → option_or (get held (h.key, h.spot)) (get (hits_of found) (h.key, h.spot)) ≡ Some h.fragment
    go (Some f) is =
        let there : get set (h.key, h.spot) ≡ Some f = among (record { key = h.key; spot = h.spot; fragment = f }) is in
        ap (λ (o : Option Fragment). option_or o (get (hits_of found) (h.key, h.spot))) is ∙ sym there ∙ each h inside
    go None is = ap (λ (o : Option Fragment). option_or o (get (hits_of found) (h.key, h.spot))) is ∙ found_is_held found h one inside

-- sets each of which is among the other are one
pub one_set : (some other : Hits) → AreAmong some other → AreAmong other some → some ≡ other
one_set some other there back = hits_are_lookups_lem some other (λ k. go k (get some k) refl (get other k) refl)
  where
    go : (k : FileKey × Spot) (o : Option Fragment) → get some k ≡ o → (p : Option Fragment) → get other k ≡ p → get some k ≡ get other k
    go k (Some f) is p has = is ∙ sym (there (record { key = k.0; spot = k.1; fragment = f }) is)
    go k None is (Some f) has = back (record { key = k.0; spot = k.1; fragment = f }) has ∙ sym has
    go k None is None has = is ∙ sym has

-- ---- the same hits in another order

-- Hits make one set in every order if no two are at one place, also if some are repeated.
pub same_taken : (held : Hits) (taken found : List Hit) → ((h : Hit) → Contains found h → HasHit (hits_of found) h)
    → ((h : Hit) → Contains taken h → Contains found h) → ((h : Hit) → Contains found h → Contains taken h) → with_hits held taken ≡ with_hits held found
same_taken held taken found each to back = hits_are_lookups_lem (with_hits held taken) (with_hits held found) (λ q.
    taking_keeps_what_is_held_lem held taken q ∙ ap (λ (s : Hits). option_or (get held q) (get s q)) same ∙ sym (taking_keeps_what_is_held_lem held found q))
  where
    one : (g h : Hit) → Contains found g → Contains found h → g.key ≡ h.key → g.spot ≡ h.spot → g.fragment ≡ h.fragment
    one g h g_in h_in key spot =
        let place : ◌≡◌ {A = FileKey × Spot} (g.key, g.spot) (h.key, h.spot) = λ t. (key t, spot t) in
        same_Some g.fragment h.fragment (sym (each g g_in) ∙ ap (get (hits_of found)) place ∙ each h h_in)

    same : hits_of taken ≡ hits_of found
    same =
        one_set (hits_of taken) (hits_of found)
        (λ h has. each h (to h (hit_was_found taken h has)))
        (λ h has.
        let inside : Contains found h = hit_was_found found h has in
        found_is_held taken h (λ g g_in key spot. one g h (to g g_in) inside key spot) (back h inside))
