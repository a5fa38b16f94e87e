-- Sets of hits, by example.
use Rattle.std.proofs.Common.{◌≡◌, ℕ, List, [], ◌∷◌, ◌++◌, refl, ap, sym, subst, ◌∙◌}
use Rattle.std.specs.Prelude.{codes, pos}
use Rattle.std.specs.declared.cmp.Ordering.TheVariants.{Less, Equal, Greater}
use Rattle.std.specs.FinMap.{find, get, from_entries, get-from_entries}
use Rattle.br_model.specs.Order.{put_all}
use Rattle.br_model.specs.Name.{FileKey}
use Rattle.br_model.specs.Block.{Fragment}
use Rattle.br_model.specs.Meaning.{Spot, Hit, hit_cmp, hit_entry, hits_of, with_hits, HasHit, AreAmong}
use Rattle.br_model.proofs.HitLaws.{hit_cmp_total, listed, entries-hits_of}

file : ℕ → FileKey
file index = record { session = record { id = 1; time = 100 }; index = index }

spot : ℕ → Spot
spot ordinal = record { group = 0; address = 0; ordinal = ordinal }

-- the part with these bytes of this file at this place
hit : ℕ → ℕ → List ℕ → Hit
hit index ordinal bytes = record { key = file index; spot = spot ordinal; fragment = record { session = (file index).session; index = pos index; stream = pos 2; size = 9; bytes = bytes } }

by_file_first : hit_cmp (file 1, spot 9) (file 2, spot 0) ≡ Less
unfolding file spot
by_file_first = refl

then_by_place : hit_cmp (file 1, spot 9) (file 1, spot 0) ≡ Greater
unfolding file spot
then_by_place = refl

one_place : hit_cmp (file 1, spot 9) (file 1, spot 9) ≡ Equal
unfolding file spot
one_place = refl

both : List Hit
both = hit 1 0 (codes "a") ∷ hit 1 1 (codes "b") ∷ []

the_set_has_each_hit : HasHit (hits_of both) (hit 1 1 (codes "b"))
unfolding both hit file spot
the_set_has_each_hit = get-from_entries hit_cmp_total (hit_entry (hit 1 0 (codes "a")) ∷ hit_entry (hit 1 1 (codes "b")) ∷ []) (file 1, spot 1)

the_set_has_no_other_part : HasHit (hits_of both) (hit 1 1 []) → ⊥
unfolding both hit file spot
the_set_has_no_other_part has =
    let e = sym the_set_has_each_hit ∙ has in
    let same : (hit 1 1 (codes "b")).fragment ≡ (hit 1 1 []).fragment = cc in
    let bytes : codes "b" ≡ [] = ap (λ (f : Fragment). f.bytes) same in absurd cc

of_two_at_one_place_the_first : HasHit (hits_of (hit 1 0 (codes "a") ∷ hit 1 0 (codes "b") ∷ [])) (hit 1 0 (codes "a"))
unfolding hit file spot
of_two_at_one_place_the_first = get-from_entries hit_cmp_total (hit_entry (hit 1 0 (codes "a")) ∷ hit_entry (hit 1 0 (codes "b")) ∷ []) (file 1, spot 0)

-- what is got of one held hit and a new one, as of their list
got : (held new : Hit) (k : FileKey × Spot) → get (with_hits (hits_of (held ∷ [])) (new ∷ [])) k ≡ find hit_cmp k (listed (held ∷ []) ++ hit_entry new ∷ [])
got held new k =
    subst (λ (es : List ((FileKey × Spot) × Fragment)). get (from_entries {R = hit_cmp} (es ++ hit_entry new ∷ [])) k ≡ find hit_cmp k (listed (held ∷ []) ++ hit_entry new ∷ []))
    (entries-hits_of (held ∷ [])) (get-from_entries hit_cmp_total (listed (held ∷ []) ++ hit_entry new ∷ []) k)

held_stays : HasHit (with_hits (hits_of (hit 1 0 (codes "a") ∷ [])) (hit 1 0 (codes "b") ∷ [])) (hit 1 0 (codes "a"))
unfolding hit file spot put_all
held_stays = got (hit 1 0 (codes "a")) (hit 1 0 (codes "b")) (file 1, spot 0)

new_is_added : HasHit (with_hits (hits_of (hit 1 0 (codes "a") ∷ [])) (hit 2 0 (codes "b") ∷ [])) (hit 2 0 (codes "b"))
unfolding hit file spot put_all
new_is_added = got (hit 1 0 (codes "a")) (hit 2 0 (codes "b")) (file 2, spot 0)

nothing_is_among_all : AreAmong (hits_of []) (hits_of both)
nothing_is_among_all h has = let e = sym (get-from_entries hit_cmp_total [] (h.key, h.spot)) ∙ has in absurd cc

both_are_not_among_nothing : AreAmong (hits_of both) (hits_of []) → ⊥
unfolding both hit file spot
both_are_not_among_nothing among =
    let e = sym (get-from_entries hit_cmp_total [] (file 1, spot 1)) ∙ among (hit 1 1 (codes "b")) the_set_has_each_hit in absurd cc
