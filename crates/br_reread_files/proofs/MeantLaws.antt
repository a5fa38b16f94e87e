-- The hits that a bootstrap means are read again by each drive that shows its volumes.
use Rattle.std.proofs.Common.{◌≡◌, ℕ, cond, List, [], ◌∷◌, Option, Some, Ok, refl, ap, sym, subst, ◌∙◌}
use Rattle.std.specs.Prelude.{Contains, flat_map}
use Rattle.std.specs.List.{AllByRecursion}
use Rattle.std.specs.List.Sorted.{IsStrictlySortedBy}
use Rattle.std.specs.Cmp.{tied_itself}
use Rattle.std.specs.FinMap.{find, get-from_entries}
use Rattle.std.specs.Ordering.{is_eq, ordering_reverse}
use Rattle.std.specs.declared.cmp.Ordering.{Ordering}
use Rattle.std.specs.declared.cmp.Ordering.TheVariants.{Less}
use Rattle.br_model.specs.Bootstrap.{Group}
use Rattle.br_model.specs.Volume.{Volume, Extends}
use Rattle.br_model.specs.Meaning.{Hit, HasHit, IsHit, Piece, MeaningHasHits, bound_of, groups_on, hit_cmp, hits_among, hits_in, hits_of, hits_on, is_covered, just_groups, meaning}
use Rattle.br_model.proofs.FoundLaws.{block_has_hit}
use Rattle.br_model.proofs.FoundSetLaws.{number_is_on}
use Rattle.br_model.proofs.HitLaws.{hit_cmp_total}
use Rattle.br_model.proofs.ListLaws.{all_weaker, contains_flat_map}
use Rattle.br_model.proofs.VolumeLaws.{walk_is_exact_lem}
use Rattle.br_data.specs.StandingHits.{HitsStand, StandingStays, Stands, place_on}
use Rattle.br_data.specs.OverDrives.{GivesOver, IsFragmentOf}
use Rattle.br_data.specs.ManyDrives.{Driven, RereadingMany}
use Rattle.br_records.specs.Runs.{AreListed, hit_order, listed}
use Rattle.br_records.proofs.SortLaws.{place}
use Rattle.br_reread_parts.specs.Given.{GivesHit, GivesHits}

-- ---- the hits of a set in order are found in it

found_each : (hs : List Hit) → AreListed hs → AllByRecursion (λ (h : Hit). find hit_cmp (place h) (listed hs) ≡ Some h.fragment) hs
unfolding IsStrictlySortedBy
found_each [] sorted = tt
found_each (x ∷ xs) sorted = (
  ap (λ (o : Ordering). cond (is_eq o) (Some x.fragment) (find hit_cmp (place x) (listed xs))) (tied_itself hit_cmp_total (place x)),
  later xs sorted.0 (found_each xs sorted.1),
)
  where
    later : (ys : List Hit) → AllByRecursion (λ (y : Hit). hit_order x y ≡ Less) ys → AllByRecursion (λ (h : Hit). find hit_cmp (place h) (listed xs) ≡ Some h.fragment) ys
        → AllByRecursion (λ (h : Hit). find hit_cmp (place h) (listed (x ∷ xs)) ≡ Some h.fragment) ys
    later [] less found = tt
    later (y ∷ ys) less found = (
      ap (λ (o : Ordering). cond (is_eq o) (Some x.fragment) (find hit_cmp (place y) (listed xs))) (hit_cmp_total.antisymm (place y) (place x) ∙ ap ordering_reverse less.0)
          ∙ found.0,
      later ys less.1 found.1,
    )

has_each : (hs : List Hit) → AreListed hs → AllByRecursion (HasHit (hits_of hs)) hs
has_each hs sorted =
    all_weaker (λ (h : Hit). find hit_cmp (place h) (listed hs) ≡ Some h.fragment) (HasHit (hits_of hs))
    (λ h found. get-from_entries hit_cmp_total (listed hs) (place h) ∙ found) hs (found_each hs sorted)

-- ---- each hit is on the volume of its group

hit_stands : HitsStand → (groups : List Group) (volumes : List Volume) (h : Hit) → IsHit groups volumes h → IsFragmentOf volumes groups h.spot h.fragment.bytes
unfolding hits_on hits_among
hit_stands stand groups volumes h is =
    let numbered = groups_on groups is.volume in
    let g = number_is_on groups is.volume is.block.address h.fragment h.spot.group is.group in
    let piece : Piece = record { number = 0; volume = is.volume; groups = numbered } in
    let walked = (walk_is_exact_lem is.bytes (bound_of (just_groups numbered)) (is_covered (just_groups numbered)) is.blocks).1 is.laid in
    let on : hits_on volumes piece ≡ Ok (flat_map (hits_in numbered) is.blocks) = rw (is.found, walked) refl in
    let inside : Contains (flat_map (hits_in numbered) is.blocks) h =
    contains_flat_map (hits_in numbered) is.blocks is.block h is.among
    (block_has_hit numbered is.block h (record { address = is.address; ordinal = is.ordinal; group = is.group; key = is.key })) in
    record {
      group = g.0;
      fragment = h.fragment;
      of = g.1;
      stands =
          subst (λ (v : List ℕ). Stands volumes (place_on v h.spot) h.fragment) (sym g.2)
          (stand volumes piece (flat_map (hits_in numbered) is.blocks) h on inside);
      same = refl;
    }

-- ---- the drives show it still

shown_still : StandingStays → (volumes shown : List Volume) (h : Hit) (groups : List Group) → Extends shown volumes
    → IsFragmentOf volumes groups h.spot h.fragment.bytes → IsFragmentOf shown groups h.spot h.fragment.bytes
shown_still stays volumes shown h groups grown is = record {
  group = is.group;
  fragment = is.fragment;
  of = is.of;
  stands = stays volumes shown (place_on is.group.volume h.spot) is.fragment grown is.stands;
  same = is.same;
}

-- the drive reports its volumes, and shows at least these
abbrev pub ShowsThem : List Volume → Driven → Type 0
ShowsThem volumes d = (shown : List Volume) × (d.shown ≡ Some shown) × Extends shown volumes

gives_one : StandingStays → (volumes : List Volume) (groups : List Group) (h : Hit) (d : Driven) → ShowsThem volumes d
    → IsFragmentOf volumes groups h.spot h.fragment.bytes → GivesOver d.shown groups h.spot h.fragment.bytes
gives_one stays volumes groups h d shows is =
    subst (λ (o : Option (List Volume)). GivesOver o groups h.spot h.fragment.bytes) (sym shows.1) (shown_still stays volumes shows.0 h groups shows.2 is)

gives_all : StandingStays → (volumes : List Volume) (groups : List Group) (h : Hit) (ds : List Driven) → AllByRecursion (ShowsThem volumes) ds
    → IsFragmentOf volumes groups h.spot h.fragment.bytes → AllByRecursion (λ (d : Driven). GivesOver d.shown groups h.spot h.fragment.bytes) ds
gives_all stays volumes groups h [] show is = tt
gives_all stays volumes groups h (d ∷ ds) show is = (gives_one stays volumes groups h d show.0 is, gives_all stays volumes groups h ds show.1 is)

-- drives that show the volumes of a meaning read its hits again
pub meant_given : HitsStand → StandingStays → MeaningHasHits → (groups : List Group) (volumes : List Volume) (many : RereadingMany) (hs : List Hit) → AreListed hs
    → meaning groups volumes ≡ Ok (hits_of hs) → many.groups ≡ groups → AllByRecursion (ShowsThem volumes) many.drives → GivesHits many hs
meant_given stand stays has groups volumes many hs sorted e same show =
    all_weaker (HasHit (hits_of hs)) (GivesHit many)
    (λ h inside.
    subst (λ (gs : List Group). AllByRecursion (λ (d : Driven). GivesOver d.shown gs h.spot h.fragment.bytes) many.drives) (sym same)
    (gives_all stays volumes groups h many.drives show (hit_stands stand groups volumes h ((has groups volumes (hits_of hs) h e).0 inside))))
    hs (has_each hs sorted)
