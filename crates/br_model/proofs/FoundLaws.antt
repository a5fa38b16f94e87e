-- What the walks for a bootstrap find, hit by hit, and for a plan span by span.
use Rattle.std.proofs.Common.{◌≡◌, ℕ, true, List, [], ◌∷◌, map, Some, sym, ap, subst, ◌∙◌, inl, inr}
use Rattle.std.specs.Prelude.{Contains, flat_map, option_map, slice_get}
use Rattle.std.specs.List.{AllByRecursion, AllZip, enumerate_from}
use Rattle.br_model.specs.Block.{Fragment, fragments_of}
use Rattle.br_model.specs.Volume.{Volume, Extends, LaidBlock}
use Rattle.br_model.specs.Bootstrap.{Group}
use Rattle.br_model.specs.Meaning.{Hit, first_hitting, hit_at, key_of, groups_on, volumes_of, hits_in}
use Rattle.br_model.specs.Job.{Span, JobRows}
use Rattle.br_model.specs.Stored.{is_in_span, IsSpanLaid}
use Rattle.br_model.specs.View.{Entry}
use Rattle.br_model.specs.Plan.{plan_groups}
use Rattle.br_model.proofs.PlanVolumeLaws.{IsGroupOf, plan_spans, plan_groups_are, IsJobLaid, blocks_found, hits_found, span_is_found}
use Rattle.br_model.proofs.ListLaws.{contains_filter, contains_flat_map, first_in, first_or_later, from_given, from_joined, given_in, in_without_repeats, later_in, none_in, at_number, number_at}
use Rattle.br_model.proofs.AnswerLaws.{some_mapped}

-- ---- the hits in a block

-- the hit is a fragment of the block, at its place there, with the number of the first group that hits it
pub record IsHitIn (numbered : List (ℕ × Group)) (b : LaidBlock) (h : Hit) : Type 0 where
  pub address : h.spot.address ≡ b.address
  pub ordinal : slice_get (fragments_of b.bytes) h.spot.ordinal ≡ Some h.fragment
  pub group : first_hitting numbered b.address h.fragment ≡ Some h.spot.group
  pub key : h.key ≡ key_of h.fragment

-- the hits in a block are such hits
pub hit_in_block : (numbered : List (ℕ × Group)) (b : LaidBlock) (h : Hit) → Contains (hits_in numbered b) h → IsHitIn numbered b h
unfolding hits_in
hit_in_block numbered b h among =
    let f = from_given (λ (f : ℕ × Fragment). option_map (hit_at b f) (first_hitting numbered b.address f.1)) (enumerate_from 0 (fragments_of b.bytes)) h among in
    let g = some_mapped (hit_at b f.0) (first_hitting numbered b.address f.0.1) h f.2 in
    let fragment : f.0.1 ≡ h.fragment = ap (λ (x : Hit). x.fragment) g.2 in
    let ordinal : f.0.0 ≡ h.spot.ordinal = ap (λ (x : Hit). x.spot.ordinal) g.2 in
    let number : g.0 ≡ h.spot.group = ap (λ (x : Hit). x.spot.group) g.2 in
    record {
      address = ap (λ (x : Hit). x.spot.address) (sym g.2);
      ordinal = ap (λ (k : ℕ). slice_get (fragments_of b.bytes) k) (sym ordinal) ∙ at_number (fragments_of b.bytes) f.0.0 f.0.1 f.1 ∙ ap (λ (x : Fragment). Some x) fragment;
      group = ap (λ (x : Fragment). first_hitting numbered b.address x) (sym fragment) ∙ g.1 ∙ ap (λ (k : ℕ). Some k) number;
      key = ap (λ (x : Hit). x.key) (sym g.2) ∙ ap key_of fragment;
    }

-- such hits are among the hits in the block
pub block_has_hit : (numbered : List (ℕ × Group)) (b : LaidBlock) (h : Hit) → IsHitIn numbered b h → Contains (hits_in numbered b) h
unfolding hits_in
block_has_hit numbered b h is =
    let f : ℕ × Fragment = (h.spot.ordinal, h.fragment) in
    let made : hit_at b f h.spot.group ≡ h =
    λ t. record { key = sym is.key t; spot = record { group = h.spot.group; address = sym is.address t; ordinal = h.spot.ordinal }; fragment = h.fragment } in
    given_in (λ (f : ℕ × Fragment). option_map (hit_at b f) (first_hitting numbered b.address f.1)) (enumerate_from 0 (fragments_of b.bytes)) f h
    (number_at (fragments_of b.bytes) h.spot.ordinal h.fragment is.ordinal)
    (ap (option_map (hit_at b f)) is.group ∙ ap (λ (x : Hit). Some x) made)

-- ---- the hits of a bootstrap

-- the hit is in a block that the walk of a volume finds
pub record IsFound (groups : List Group) (volumes : List Volume) (h : Hit) : Type 0 where
  pub volume : List ℕ
  pub named : Contains (volumes_of groups) volume
  pub block : LaidBlock
  pub among : Contains (blocks_found groups volumes volume) block
  pub hit : IsHitIn (groups_on groups volume) block h

-- what is found on the volumes of a bootstrap are such hits
pub found_is : (groups : List Group) (volumes : List Volume) (h : Hit) → Contains (flat_map (hits_found groups volumes) (volumes_of groups)) h → IsFound groups volumes h
found_is groups volumes h among =
    let v = from_joined (hits_found groups volumes) (volumes_of groups) h among in
    let b = from_joined (hits_in (groups_on groups v.0)) (blocks_found groups volumes v.0) h v.2 in
    record { volume = v.0; named = v.1; block = b.0; among = b.1; hit = hit_in_block (groups_on groups v.0) b.0 h b.2 }

-- each such hit is found
pub is_found : (groups : List Group) (volumes : List Volume) (h : Hit) → IsFound groups volumes h → Contains (flat_map (hits_found groups volumes) (volumes_of groups)) h
is_found groups volumes h is =
    contains_flat_map (hits_found groups volumes) (volumes_of groups) is.volume h is.named
    (contains_flat_map (hits_in (groups_on groups is.volume)) (blocks_found groups volumes is.volume) is.block h is.among (block_has_hit (groups_on groups is.volume) is.block h is.hit))

-- ---- the hits of a plan

-- a block that the walk finds is one of a span of the plan if its address is in the span
pub block_is_of_span : (volumes later : List Volume) (selected : List Entry) (jobs : List JobRows) (s : Span) (blocks : List LaidBlock) (b : LaidBlock) → Extends later volumes
    → AllByRecursion (IsJobLaid volumes) jobs → Contains (plan_spans selected jobs) s → IsSpanLaid volumes s blocks
    → Contains (blocks_found (plan_groups selected jobs) later s.volume) b → is_in_span s b.address ≡ true → Contains blocks b
block_is_of_span volumes later selected jobs s blocks b extends laid among is found inside =
    subst (λ (bs : List LaidBlock). Contains bs b) (sym (span_is_found volumes later selected jobs s blocks extends laid among is))
    (contains_filter (λ (c : LaidBlock). is_in_span s c.address) (blocks_found (plan_groups selected jobs) later s.volume) b found inside)

volume_of_group : (gs : List Group) (ss : List Span) (s : Span) → AllZip IsGroupOf gs ss → Contains ss s → Contains (map (λ (g : Group). g.volume) gs) s.volume
volume_of_group [] [] s are among = absurd (none_in s among)
volume_of_group [] (t ∷ ts) s are among = absurd are
volume_of_group (g ∷ gs) [] s are among = absurd are
volume_of_group (g ∷ gs) (t ∷ ts) s are among =
    elim (first_or_later t ts s among) [
      | inl e ↦ first_in g.volume (map (λ (h : Group). h.volume) gs) s.volume (are.0.volume_is ∙ ap (λ (u : Span). u.volume) e)
      | inr more ↦ later_in g.volume (map (λ (h : Group). h.volume) gs) s.volume (volume_of_group gs ts s are.1 more)
    ]

-- a plan names the volume of each of its spans
pub volume_is_named : (selected : List Entry) (jobs : List JobRows) (s : Span) → Contains (plan_spans selected jobs) s → Contains (volumes_of (plan_groups selected jobs)) s.volume
volume_is_named selected jobs s among =
    in_without_repeats (map (λ (g : Group). g.volume) (plan_groups selected jobs)) s.volume
    (volume_of_group (plan_groups selected jobs) (plan_spans selected jobs) s (plan_groups_are selected jobs) among)
