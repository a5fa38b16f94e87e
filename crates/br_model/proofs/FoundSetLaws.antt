-- The set of a bootstrap's hits has exactly what its walks find.
use Rattle.std.proofs.Common.{◌≡◌, ℕ, ◌+◌, List, [], Some, Result, Ok, Err, refl, sym, ap, subst, ◌∙◌, arith}
use Rattle.std.proofs.lemmas.Option.{same_Some}
use Rattle.std.proofs.lemmas.Slice.Eq.{bytes_eq-Decides}
use Rattle.std.specs.Prelude.{◌↔◌, bytes_eq, Contains, flat_map, slice_get, unwrap_or}
use Rattle.br_model.specs.Block.{Fragment, fragments_of}
use Rattle.br_model.specs.Volume.{Volume, volume_bytes, LaidBlock, BlockFault}
use Rattle.br_model.specs.Bootstrap.{Group, hits}
use Rattle.br_model.specs.Meaning.{Spot, Hit, HasHit, hits_of, first_hitting, bound_of, is_covered, groups_on, just_groups, volumes_of, blocks_for}
use Rattle.br_model.proofs.VolumeLaws.{walk_is_exact_lem}
use Rattle.br_model.proofs.SpanLaws.{IsBehind, AreAscending, laid_ascend}
use Rattle.br_model.proofs.PlanVolumeLaws.{found_or_none, blocks_found, hits_found}
use Rattle.br_model.proofs.FoundLaws.{IsFound, found_is, is_found}
use Rattle.br_model.proofs.GroupLaws.{asks, first_hitting_is_first}
use Rattle.br_model.proofs.PairLaws.{first_number_passes, one_if_unrelated}
use Rattle.br_model.proofs.RisingLaws.{found_is_held, hit_was_found}
use Rattle.std.proofs.lemmas.Bool.{and_parts}

-- ---- the volume of a group's number

-- the first group that hits has its number's place among all groups, and is on the volume
pub number_is_on : (groups : List Group) (volume : List ℕ) (address : ℕ) (f : Fragment) (k : ℕ) → first_hitting (groups_on groups volume) address f ≡ Some k
    → (g : Group) × (slice_get groups k ≡ Some g) × (g.volume ≡ volume)
number_is_on groups volume address f k e =
    let r = first_number_passes (asks volume address f) 0 groups k (sym (first_hitting_is_first groups volume address f) ∙ e) in
    let same : r.0 ≡ k = omega (arith, r.2) in
    (r.1, ap (λ (i : ℕ). slice_get groups i) (sym same) ∙ r.3, (bytes_eq-Decides r.1.volume volume).0 (and_parts (bytes_eq r.1.volume volume) (hits r.1 address f) r.4).0)

-- ---- one block at an address

-- of blocks in order two at one address are one
pub one_at_address : (bs : List LaidBlock) (b c : LaidBlock) → AreAscending bs → Contains bs b → Contains bs c → b.address ≡ c.address → b ≡ c
one_at_address bs b c up b_in c_in same =
    one_if_unrelated (λ (x : LaidBlock). IsBehind (x.address + 16)) bs b c up b_in c_in (λ behind. omega (arith, behind, same)) (λ behind. omega (arith, behind, same))

-- the blocks that a walk finds are in order
pub found_ascend : (groups : List Group) (volumes : List Volume) (volume : List ℕ) → AreAscending (blocks_found groups volumes volume)
found_ascend groups volumes volume = go (blocks_for (groups_on groups volume) bytes) refl
  where
    bytes : List ℕ
    bytes = unwrap_or (volume_bytes volumes volume) []

    go : (r : Result (List LaidBlock) BlockFault) → blocks_for (groups_on groups volume) bytes ≡ r → AreAscending (found_or_none r)
    go (Ok bs) is =
        let gs = just_groups (groups_on groups volume) in
        laid_ascend 0 bytes (bound_of gs) (is_covered gs) bs ((walk_is_exact_lem bytes (bound_of gs) (is_covered gs) bs).0 is)
    go (Err e) is = tt

-- ---- found hits and their set

-- two found hits at one place are of one fragment
pub one_at_spot : (groups : List Group) (volumes : List Volume) (g h : Hit) → IsFound groups volumes g → IsFound groups volumes h → g.spot ≡ h.spot → g.fragment ≡ h.fragment
one_at_spot groups volumes g h p q same =
    let a = number_is_on groups p.volume p.block.address g.fragment g.spot.group p.hit.group in
    let b = number_is_on groups q.volume q.block.address h.fragment h.spot.group q.hit.group in
    let number : g.spot.group ≡ h.spot.group = ap (λ (s : Spot). s.group) same in
    let group : a.0 ≡ b.0 = same_Some a.0 b.0 (sym a.1 ∙ ap (λ (k : ℕ). slice_get groups k) number ∙ b.1) in
    let volume : p.volume ≡ q.volume = sym a.2 ∙ ap (λ (x : Group). x.volume) group ∙ b.2 in
    let there : Contains (blocks_found groups volumes q.volume) p.block = subst (λ (v : List ℕ). Contains (blocks_found groups volumes v) p.block) volume p.among in
    let address : p.block.address ≡ q.block.address = sym p.hit.address ∙ ap (λ (s : Spot). s.address) same ∙ q.hit.address in
    let block : p.block ≡ q.block = one_at_address (blocks_found groups volumes q.volume) p.block q.block (found_ascend groups volumes q.volume) there q.among address in
    same_Some g.fragment h.fragment
    (sym p.hit.ordinal ∙ (λ t. slice_get (fragments_of (block t).bytes) (same t).ordinal) ∙ q.hit.ordinal)

-- the set of what a bootstrap's walks find has exactly the hits in the blocks that they find
pub set_has_found : (groups : List Group) (volumes : List Volume) (h : Hit)
    → HasHit (hits_of (flat_map (hits_found groups volumes) (volumes_of groups))) h ↔ IsFound groups volumes h
set_has_found groups volumes h =
    let found = flat_map (hits_found groups volumes) (volumes_of groups) in (
      (λ has. found_is groups volumes h (hit_was_found found h has)),
      (λ is. found_is_held found h (λ g g_in key same. one_at_spot groups volumes g h (found_is groups volumes g g_in) is same) (is_found groups volumes h is)),
    )
