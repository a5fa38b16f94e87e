-- A bootstrap has a meaning exactly if its volumes are laid out as it asks, and its meaning is the
-- set of its hits.
use Rattle.std.proofs.Common.{◌≡◌, ℕ, List, map, Ok, sym, subst, ◌∙◌}
use Rattle.std.specs.Prelude.{Contains, flat_map}
use Rattle.std.specs.List.{AllByRecursion}
use Rattle.br_model.specs.Volume.{Volume, LaidBlock}
use Rattle.br_model.specs.Bootstrap.{Group}
use Rattle.br_model.specs.Meaning.{Hit, Hits, HasHit, IsHit, IsLaidFor, bound_of, is_covered, groups_on, just_groups, volumes_of, hits_of, meaning, MeaningIsOfLaid, MeaningHasHits}
use Rattle.br_model.proofs.AnswerLaws.{ok_is}
use Rattle.br_model.proofs.VolumeLaws.{walk_is_exact_lem}
use Rattle.br_model.proofs.PieceLaws.{once}
use Rattle.br_model.proofs.ReachLaws.{IsWalked, volumes_are_searched}
use Rattle.br_model.proofs.PlanVolumeLaws.{blocks_found, hits_found, walked_blocks, walked_meaning}
use Rattle.br_model.proofs.FoundLaws.{IsFound}
use Rattle.br_model.proofs.FoundSetLaws.{number_is_on, set_has_found}
use Rattle.br_model.proofs.ListLaws.{all_map, all_weaker, contains_map, has_at, in_without_repeats, of_each, to_each}

-- ---- the volumes of a meaning

-- a volume that is searched is laid out as the groups on it ask
walked_is_laid : (groups : List Group) (volumes : List Volume) (volume : List ℕ) → IsWalked groups volumes volume → IsLaidFor groups volumes volume
walked_is_laid groups volumes volume s =
    let here = just_groups (groups_on groups volume) in
    record { bytes = s.bytes; blocks = s.all; found = s.found; laid = (walk_is_exact_lem s.bytes (bound_of here) (is_covered here) s.all).0 s.walked }

-- the walk of a volume that is laid out as the groups on it ask is not refused
abbrev laid_is_walked : (groups : List Group) (volumes : List Volume) (volume : List ℕ) → IsLaidFor groups volumes volume → IsWalked groups volumes volume
laid_is_walked groups volumes volume l =
    let here = just_groups (groups_on groups volume) in
    record { bytes = l.bytes; all = l.blocks; found = l.found; walked = (walk_is_exact_lem l.bytes (bound_of here) (is_covered here) l.blocks).1 l.laid }

-- the volume of a group is among those that the groups name
group_is_named : (groups : List Group) (g : Group) → Contains groups g → Contains (volumes_of groups) g.volume
group_is_named groups g among = in_without_repeats (map (λ (h : Group). h.volume) groups) g.volume (contains_map (λ (h : Group). h.volume) groups g among)

-- in a meaning each volume that the groups name is laid out as they ask
named_are_laid : (groups : List Group) (volumes : List Volume) (set : Hits) → meaning groups volumes ≡ Ok set → AllByRecursion (IsLaidFor groups volumes) (volumes_of groups)
named_are_laid groups volumes set e =
    all_weaker (IsWalked groups volumes) (IsLaidFor groups volumes) (walked_is_laid groups volumes) (volumes_of groups) (volumes_are_searched groups volumes set e)

-- if each volume that the groups name is laid out as they ask, the meaning is the set of
-- what is found
laid_meaning : (groups : List Group) (volumes : List Volume) → AllByRecursion (IsLaidFor groups volumes) (volumes_of groups)
    → meaning groups volumes ≡ Ok (hits_of (flat_map (hits_found groups volumes) (volumes_of groups)))
laid_meaning groups volumes laid =
    walked_meaning groups volumes (all_weaker (IsLaidFor groups volumes) (IsWalked groups volumes) (laid_is_walked groups volumes) (volumes_of groups) laid)

pub meaning_is_of_laid_lem : MeaningIsOfLaid
meaning_is_of_laid_lem groups volumes = (to_laid, to_meaning)
  where
    to_laid : (set : Hits) × (meaning groups volumes ≡ Ok set) → AllByRecursion (λ (g : Group). IsLaidFor groups volumes g.volume) groups
    to_laid m =
        to_each (λ (g : Group). IsLaidFor groups volumes g.volume) groups
        (λ g among. of_each (IsLaidFor groups volumes) (volumes_of groups) g.volume (named_are_laid groups volumes m.0 m.1) (group_is_named groups g among))

    to_meaning : AllByRecursion (λ (g : Group). IsLaidFor groups volumes g.volume) groups → (set : Hits) × (meaning groups volumes ≡ Ok set)
    to_meaning laid =
        let named = once (IsLaidFor groups volumes) (map (λ (g : Group). g.volume) groups) (all_map (IsLaidFor groups volumes) (λ (g : Group). g.volume) groups laid) in
        (hits_of (flat_map (hits_found groups volumes) (volumes_of groups)), laid_meaning groups volumes named)

-- ---- the hits of a meaning

-- the blocks that are found are those in which the volume is laid out
found_are_laid : (groups : List Group) (volumes : List Volume) (volume : List ℕ) (l : IsLaidFor groups volumes volume) → blocks_found groups volumes volume ≡ l.blocks
found_are_laid groups volumes volume l = walked_blocks groups volumes volume (laid_is_walked groups volumes volume l)

-- what is found in a volume that is laid out as the groups ask is a hit
found_is_hit : (groups : List Group) (volumes : List Volume) (h : Hit) → AllByRecursion (IsLaidFor groups volumes) (volumes_of groups) → IsFound groups volumes h → IsHit groups volumes h
found_is_hit groups volumes h laid f =
    let l = of_each (IsLaidFor groups volumes) (volumes_of groups) f.volume laid f.named in
    record {
      volume = f.volume;
      bytes = l.bytes;
      blocks = l.blocks;
      block = f.block;
      found = l.found;
      laid = l.laid;
      among = subst (λ (bs : List LaidBlock). Contains bs f.block) (found_are_laid groups volumes f.volume l) f.among;
      address = f.hit.address;
      ordinal = f.hit.ordinal;
      group = f.hit.group;
      key = f.hit.key;
    }

-- a hit is found
hit_is_found : (groups : List Group) (volumes : List Volume) (h : Hit) → IsHit groups volumes h → IsFound groups volumes h
hit_is_found groups volumes h is =
    let g = number_is_on groups is.volume is.block.address h.fragment h.spot.group is.group in
    let l : IsLaidFor groups volumes is.volume = record { bytes = is.bytes; blocks = is.blocks; found = is.found; laid = is.laid } in
    record {
      volume = is.volume;
      named = subst (λ (v : List ℕ). Contains (volumes_of groups) v) g.2 (group_is_named groups g.0 (has_at groups h.spot.group g.0 g.1));
      block = is.block;
      among = subst (λ (bs : List LaidBlock). Contains bs is.block) (sym (found_are_laid groups volumes is.volume l)) is.among;
      hit = record { address = is.address; ordinal = is.ordinal; group = is.group; key = is.key };
    }

pub meaning_has_hits_lem : MeaningHasHits
meaning_has_hits_lem groups volumes set hit e =
    let laid = named_are_laid groups volumes set e in
    let found = hits_of (flat_map (hits_found groups volumes) (volumes_of groups)) in
    let same : found ≡ set = ok_is found set (sym (laid_meaning groups volumes laid) ∙ e) in
    let exactly = set_has_found groups volumes hit in (
      (λ has. found_is_hit groups volumes hit laid (exactly.0 (subst (λ (s : Hits). HasHit s hit) (sym same) has))),
      (λ is. subst (λ (s : Hits). HasHit s hit) same (exactly.1 (hit_is_found groups volumes hit is))),
    )
