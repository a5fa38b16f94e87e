-- The pieces of a plan over the volumes on which its jobs are laid: they are bounded, and their
-- hits are those of the plan's meaning.
use Rattle.std.proofs.Common.{◌≡◌, ℕ, ◌<◌, List, [], ◌∷◌, ◌++◌, length, map, Option, Some, Result, Ok, refl, sym, ap, subst, ◌∙◌}
use Rattle.std.proofs.lemmas.Option.{same_Some}
use Rattle.std.specs.Prelude.{Contains, flat_map, slice_get}
use Rattle.std.specs.List.{AllByRecursion, enumerate_from}
use Rattle.br_model.specs.Answer.{◌>>=◌, refused_as, some_or}
use Rattle.br_model.specs.Volume.{Volume, Extends, LaidBlock, BlockFault}
use Rattle.br_model.specs.Bootstrap.{Group}
use Rattle.br_model.specs.Meaning.{Piece, PieceFault, Hit, Hits, HasHit, groups_on, just_groups, volumes_of, pieces_of, hits_in, hits_among, hits_on, hits_of, meaning}
use Rattle.br_model.specs.Job.{JobRows}
use Rattle.br_model.specs.View.{Entry}
use Rattle.br_model.specs.Plan.{plan_groups}
use Rattle.br_model.proofs.AnswerLaws.{ok_is}
use Rattle.br_model.proofs.ListLaws.{contains_flat_map, contains_map, contains_numbered, from_image, has_at, numbered_in, of_each, place_of, to_each}
use Rattle.br_model.proofs.PieceLaws.{piece_of}
use Rattle.br_model.proofs.SpanLaws.{last_end, laid_once, everywhere, whole_later, IsWholeTo}
use Rattle.br_model.proofs.PlanVolumeLaws.{IsJobLaid, IsPlanWalked, plan_spans, spans_on, groups_on_are, plan_groups_are, bound_of_spans, plan_is_walked, blocks_found, hits_found, walked_blocks, each_volume_has_groups, plan_has_meaning}
use Rattle.br_model.proofs.ReachLaws.{IsWalked}
use Rattle.br_model.proofs.FoundLaws.{block_has_hit, found_is}
use Rattle.br_model.proofs.FoundSetLaws.{set_has_found}
use Rattle.br_volume.proofs.ExtendLaws.{extends_itself}
use Rattle.br_core.proofs.AlikeLaws.{IsBounded}

-- ---- the pieces of a bootstrap

-- the hits of a piece whose volume is searched (as in br_model)
hits_of_walked : (groups : List Group) (volumes : List Volume) (number : ℕ) (volume : List ℕ) → IsWalked groups volumes volume
    → hits_on volumes (piece_of groups (number, volume)) ≡ Ok (hits_found groups volumes volume)
unfolding hits_on hits_among
hits_of_walked groups volumes number volume w =
    ap (λ (o : Option (List ℕ)). some_or o missing >>= λ bytes. refused_as fault_of (hits_among numbered bytes)) w.found
    ∙ ap (λ (r : Result (List LaidBlock) BlockFault). refused_as fault_of (r >>= gather)) w.walked
    ∙ ap (λ (blocks : List LaidBlock). Ok (flat_map (hits_in numbered) blocks)) (sym (walked_blocks groups volumes volume w))
  where
    numbered : List (ℕ × Group)
    numbered = groups_on groups volume

    missing : PieceFault
    missing = record { number = 14; volume = volume; address = 0 }

    fault_of : BlockFault → PieceFault
    fault_of e = record { number = e.number; volume = volume; address = e.address }

    gather : List LaidBlock → Result (List Hit) BlockFault
    gather blocks = Ok (flat_map (hits_in numbered) blocks)

-- each piece is that of a volume that the groups name
piece_is_of : (groups : List Group) (n : ℕ) (piece : Piece) → slice_get (pieces_of groups) n ≡ Some piece
    → (k : ℕ) × (volume : List ℕ) × Contains (volumes_of groups) volume × (piece_of groups (k, volume) ≡ piece)
unfolding pieces_of
piece_is_of groups n piece e =
    let r = from_image (piece_of groups) (enumerate_from 0 (volumes_of groups)) piece (has_at (map (piece_of groups) (enumerate_from 0 (volumes_of groups))) n piece e) in
    (r.0.0, r.0.1, numbered_in 0 (volumes_of groups) r.0.0 r.0.1 r.1, r.2)

-- each volume that the groups name has a piece
volume_has_piece : (groups : List Group) (volume : List ℕ) → Contains (volumes_of groups) volume
    → (n : ℕ) × (k : ℕ) × (slice_get (pieces_of groups) n ≡ Some (piece_of groups (k, volume)))
unfolding pieces_of
volume_has_piece groups volume among =
    let k = contains_numbered 0 (volumes_of groups) volume among in
    let n = place_of (map (piece_of groups) (enumerate_from 0 (volumes_of groups))) (piece_of groups (k.0, volume)) (contains_map (piece_of groups) (enumerate_from 0 (volumes_of groups)) (k.0, volume) k.1) in
    (n.0, k.0, n.1)

-- ---- the pieces of a plan

-- the piece is bounded, and its hits are in the set
pub record IsPieceOf (volumes : List Volume) (set : Hits) (piece : Piece) : Type 0 where
  pub bounded : IsBounded volumes piece
  pub among : (h : Hit) → Contains bounded.hits h → HasHit set h

-- The set is the meaning of the groups over the volumes. Each of their pieces is bounded, with hits
-- of the set, and each hit of the set is one of a piece.
pub record IsReadable (volumes : List Volume) (groups : List Group) (set : Hits) : Type 0 where
  pub means : meaning groups volumes ≡ Ok set
  pub each : (n : ℕ) (piece : Piece) → slice_get (pieces_of groups) n ≡ Some piece → IsPieceOf volumes set piece
  pub all : (h : Hit) → HasHit set h
      → (n : ℕ) × (piece : Piece) × (slice_get (pieces_of groups) n ≡ Some piece) × ((hits : List Hit) → hits_on volumes piece ≡ Ok hits → Contains hits h)

-- the hits of a plan over volumes, as they are found
abbrev pub plan_hits : List Volume → List Entry → List JobRows → List Hit
plan_hits volumes selected jobs = flat_map (hits_found (plan_groups selected jobs) volumes) (volumes_of (plan_groups selected jobs))

-- the walk of a volume that a plan names
walked_on : (volumes later : List Volume) (selected : List Entry) (jobs : List JobRows) (volume : List ℕ) → Extends later volumes → AllByRecursion (IsJobLaid volumes) jobs
    → Contains (volumes_of (plan_groups selected jobs)) volume → IsPlanWalked volumes later selected jobs volume
walked_on volumes later selected jobs volume extends laid named =
    let groups = plan_groups selected jobs in
    plan_is_walked volumes later selected jobs volume extends laid
    (of_each (λ (v : List ℕ). 0 < length (groups_on groups v)) (volumes_of groups) volume (each_volume_has_groups groups) named)

-- such a walk searches the volume
abbrev searched : (volumes later : List Volume) (selected : List Entry) (jobs : List JobRows) (volume : List ℕ) → IsPlanWalked volumes later selected jobs volume
    → IsWalked (plan_groups selected jobs) later volume
searched volumes later selected jobs volume w = record { bytes = w.bytes; all = w.all; found = w.found; walked = w.walked }

-- a piece of a plan is bounded, and its hits are among those of the plan
piece_of_plan : (volumes : List Volume) (selected : List Entry) (jobs : List JobRows) (k : ℕ) (volume : List ℕ) → AllByRecursion (IsJobLaid volumes) jobs
    → Contains (volumes_of (plan_groups selected jobs)) volume → IsPieceOf volumes (hits_of (plan_hits volumes selected jobs)) (piece_of (plan_groups selected jobs) (k, volume))
piece_of_plan volumes selected jobs k volume laid named =
    let groups = plan_groups selected jobs in
    let w = walked_on volumes volumes selected jobs volume (extends_itself volumes) laid named in
    record {
      bounded = record {
        hits = hits_found groups volumes volume;
        defined = hits_of_walked groups volumes k volume (searched volumes volumes selected jobs volume w);
        bytes = w.bytes;
        found = w.found;
        end = last_end (spans_on (plan_spans selected jobs) volume);
        bound_is = bound_of_spans (just_groups (groups_on groups volume)) (spans_on (plan_spans selected jobs) volume) (groups_on_are groups (plan_spans selected jobs) volume (plan_groups_are selected jobs));
        within = w.whole.within;
      };
      among = λ h inside.
          (set_has_found groups volumes h).1 (found_is groups volumes h (contains_flat_map (hits_found groups volumes) (volumes_of groups) volume h named inside));
    }

-- over the volumes on which its jobs are laid a plan is readable
pub plan_is_readable : (volumes : List Volume) (selected : List Entry) (jobs : List JobRows) → AllByRecursion (IsJobLaid volumes) jobs
    → IsReadable volumes (plan_groups selected jobs) (hits_of (plan_hits volumes selected jobs))
plan_is_readable volumes selected jobs laid = record { means = plan_has_meaning volumes volumes selected jobs (extends_itself volumes) laid; each = each; all = all }
  where
    groups : List Group
    groups = plan_groups selected jobs

    each : (n : ℕ) (piece : Piece) → slice_get (pieces_of groups) n ≡ Some piece → IsPieceOf volumes (hits_of (plan_hits volumes selected jobs)) piece
    each n piece e =
        let r = piece_is_of groups n piece e in
        subst (IsPieceOf volumes (hits_of (plan_hits volumes selected jobs))) r.3 (piece_of_plan volumes selected jobs r.0 r.1 laid r.2)

    all : (h : Hit) → HasHit (hits_of (plan_hits volumes selected jobs)) h
        → (n : ℕ) × (piece : Piece) × (slice_get (pieces_of groups) n ≡ Some piece) × ((hits : List Hit) → hits_on volumes piece ≡ Ok hits → Contains hits h)
    all h has =
        let f = (set_has_found groups volumes h).0 has in
        let p = volume_has_piece groups f.volume f.named in
        let w = walked_on volumes volumes selected jobs f.volume (extends_itself volumes) laid f.named in
        let there : Contains (hits_found groups volumes f.volume) h =
        contains_flat_map (hits_in (groups_on groups f.volume)) (blocks_found groups volumes f.volume) f.block h f.among (block_has_hit (groups_on groups f.volume) f.block h f.hit) in
        let defined : hits_on volumes (piece_of groups (p.1, f.volume)) ≡ Ok (hits_found groups volumes f.volume) =
        hits_of_walked groups volumes p.1 f.volume (searched volumes volumes selected jobs f.volume w) in
        (p.0, piece_of groups (p.1, f.volume), p.2, λ hits e. subst (λ (hs : List Hit). Contains hs h) (ok_is (hits_found groups volumes f.volume) hits (sym defined ∙ e)) there)

-- ---- later volumes

-- what two functions give of each element alike they give of the list alike
flat_map_alike : {X Y : Type 0} (f g : X → List Y) (xs : List X) → AllByRecursion (λ (x : X). f x ≡ g x) xs → flat_map f xs ≡ flat_map g xs
flat_map_alike f g [] same = refl
flat_map_alike f g (x ∷ xs) same = rw (same.0, flat_map_alike f g xs same.1) refl

-- over volumes that go on a plan's walks find the same blocks
blocks_alike : (volumes later : List Volume) (selected : List Entry) (jobs : List JobRows) (volume : List ℕ) → Extends later volumes → AllByRecursion (IsJobLaid volumes) jobs
    → Contains (volumes_of (plan_groups selected jobs)) volume → blocks_found (plan_groups selected jobs) later volume ≡ blocks_found (plan_groups selected jobs) volumes volume
blocks_alike volumes later selected jobs volume extends laid named =
    let groups = plan_groups selected jobs in
    let now = walked_on volumes volumes selected jobs volume (extends_itself volumes) laid named in
    let then = walked_on volumes later selected jobs volume extends laid named in
    let grown = extends volume now.bytes now.found in
    let bytes : then.bytes ≡ now.bytes ++ grown.0 = same_Some then.bytes (now.bytes ++ grown.0) (sym then.found ∙ grown.1) in
    let end = last_end (spans_on (plan_spans selected jobs) volume) in
    let whole : IsWholeTo (now.bytes ++ grown.0) end then.all = subst (λ (xs : List ℕ). IsWholeTo xs end then.all) bytes then.whole in
    let same : then.all ≡ now.all = laid_once 0 (now.bytes ++ grown.0) (Some end) everywhere everywhere then.all now.all whole.laid (whole_later now.bytes grown.0 end now.all now.whole).laid in
    walked_blocks groups later volume (searched volumes later selected jobs volume then) ∙ same ∙ sym (walked_blocks groups volumes volume (searched volumes volumes selected jobs volume now))

-- over volumes that go on a plan has the same meaning
pub plan_means_alike : (volumes later : List Volume) (selected : List Entry) (jobs : List JobRows) → Extends later volumes → AllByRecursion (IsJobLaid volumes) jobs
    → meaning (plan_groups selected jobs) later ≡ Ok (hits_of (plan_hits volumes selected jobs))
plan_means_alike volumes later selected jobs extends laid =
    let groups = plan_groups selected jobs in
    plan_has_meaning volumes later selected jobs extends laid
    ∙ ap (λ (hs : List Hit). Ok (hits_of hs)) (flat_map_alike (hits_found groups later) (hits_found groups volumes) (volumes_of groups)
    (to_each (λ (v : List ℕ). hits_found groups later v ≡ hits_found groups volumes v) (volumes_of groups)
    (λ v named. ap (flat_map (hits_in (groups_on groups v))) (blocks_alike volumes later selected jobs v extends laid named))))
