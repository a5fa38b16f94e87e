-- Hits of a piece are at their places, and stay there.
use Rattle.std.proofs.Common.{◌≡◌, ℕ, ◌+◌, ◌≤◌, Bool, true, false, cond, ltb, List, [], ◌∷◌, ◌++◌, length, drop, take, Option, Some, Result, Ok, Err, refl, sym, ap, subst, ◌∙◌, inl, inr, arith}
use Rattle.std.proofs.lemmas.Bool.{le-ltb, ltb-false}
use Rattle.std.proofs.lemmas.Option.{same_Some}
use Rattle.std.proofs.lemmas.List.{drop-drop, drop-append-le, length-drop}
use Rattle.std.specs.Prelude.{Contains, flat_map, slice_get}
use Rattle.br_model.specs.Answer.{refused_as, some_or}
use Rattle.br_model.specs.Block.{Header, read_header, read_block, fragments_of}
use Rattle.br_model.specs.Volume.{Volume, volume_bytes, Extends, LaidBlock, BlockFault, AreLaidFrom}
use Rattle.br_model.specs.Meaning.{Piece, PieceFault, Hit, bound_of, is_covered, just_groups, blocks_for, hits_in, hits_among, hits_on}
use Rattle.br_model.proofs.AnswerLaws.{bind_ok, chosen, err_is_not_ok, ok_is, refused_as_ok, some_or_ok}
use Rattle.br_model.proofs.ListLaws.{first_or_later, from_joined, none_in}
use Rattle.br_model.proofs.FoundLaws.{hit_in_block}
use Rattle.br_model.proofs.PlanVolumeLaws.{uncovered_has_no_hits}
use Rattle.br_model.proofs.SpanLaws.{read_block_front}
use Rattle.br_model.proofs.VolumeLaws.{header_has_16, walk_is_exact_lem}
use Rattle.br_data.specs.StandingHits.{IsBlockAt, HitsStand, StandingStays, StandsOnce}

-- a block whose header is read and that is whole is read
pub whole_is_read : (left : List ℕ) (h : Header) → read_header left ≡ Ok h → h.size ≤ length left → read_block left ≡ Ok (take h.size left)
unfolding read_block
whole_is_read left h read whole = rw (read, le-ltb (length left) h.size whole) refl

-- a covered block of a walk is read at its address
block_is_read : (bytes : List ℕ) (address : ℕ) (left : List ℕ) (bound : Option ℕ) (covered : ℕ → Bool) (bs : List LaidBlock) (b : LaidBlock)
    → left ≡ drop address bytes → AreLaidFrom address left bound covered bs → Contains bs b → covered b.address ≡ true
    → read_block (drop b.address bytes) ≡ Ok b.bytes
block_is_read bytes address left bound covered [] b is laid among c = absurd (none_in b among)
block_is_read bytes address left bound covered (x ∷ xs) b is laid among c =
    let h = laid.2 in
    elim (first_or_later x xs b among) [
      | inl e ↦
          let same : b ≡ record { address = address; bytes = take h.size left } = sym e ∙ laid.5 in
          let at : b.address ≡ address = ap (λ (y : LaidBlock). y.address) same in
          ap (λ (a : ℕ). read_block (drop a bytes)) at ∙ ap read_block (sym is)
          ∙ whole_is_read left h laid.3 (laid.4 (ap covered (sym at) ∙ c)) ∙ ap (λ (y : LaidBlock). Ok y.bytes) (sym same)
      | inr later ↦
          block_is_read bytes (address + h.size) (drop h.size left) bound covered xs b
          (ap (drop h.size) is ∙ drop-drop h.size address bytes) laid.6 later c
    ]

covered_or_none : (piece : Piece) (b : LaidBlock) (hit : Hit) → Contains (hits_in piece.groups b) hit → is_covered (just_groups piece.groups) b.address ≡ true
covered_or_none piece b hit inside = go (is_covered (just_groups piece.groups) b.address) refl
  where
    go : (c : Bool) → is_covered (just_groups piece.groups) b.address ≡ c → c ≡ true
    go true e = refl
    go false e = absurd (none_in hit (subst (λ (hs : List Hit). Contains hs hit) (uncovered_has_no_hits piece.groups b e) inside))

-- each hit of a piece is at its place
pub hits_stand_lem : HitsStand
unfolding hits_on hits_among
hits_stand_lem volumes piece hits hit e inside =
    let among : List ℕ → Result (List Hit) PieceFault = λ bytes. refused_as fault_of (hits_among piece.groups bytes) in
    let p = bind_ok (some_or (volume_bytes volumes piece.volume) missing) among hits e in
    let found : volume_bytes volumes piece.volume ≡ Some p.0 = some_or_ok (volume_bytes volumes piece.volume) missing p.0 p.1 in
    let all = refused_as_ok fault_of (hits_among piece.groups p.0) hits p.2 in
    let q = bind_ok (blocks_for piece.groups p.0) give hits all in
    let laid = (walk_is_exact_lem p.0 (bound_of (just_groups piece.groups)) (is_covered (just_groups piece.groups)) q.0).0 q.1 in
    let b = from_joined (hits_in piece.groups) q.0 hit (subst (λ (hs : List Hit). Contains hs hit) (sym (ok_is (flat_map (hits_in piece.groups) q.0) hits q.2)) inside) in
    let is = hit_in_block piece.groups b.0 hit b.2 in
    let read = block_is_read p.0 0 p.0 (bound_of (just_groups piece.groups)) (is_covered (just_groups piece.groups)) q.0 b.0 refl laid b.1 (covered_or_none piece b.0 hit b.2) in
    record {
      block = b.0.bytes;
      there = record { bytes = p.0; found = found; whole = ap (λ (a : ℕ). read_block (drop a p.0)) is.address ∙ read };
      at = is.ordinal;
    }
  where
    missing : PieceFault
    missing = record { number = 14; volume = piece.volume; address = 0 }

    fault_of : BlockFault → PieceFault
    fault_of e = record { number = e.number; volume = piece.volume; address = e.address }

    give : List LaidBlock → Result (List Hit) BlockFault
    give blocks = Ok (flat_map (hits_in piece.groups) blocks)

-- a block that is read has a header, and so the bytes there are 16 at least
pub read_has_header : (left block : List ℕ) → read_block left ≡ Ok block → (h : Header) × (read_header left ≡ Ok h) × (h.size ≤ length left) × (take h.size left ≡ block)
unfolding read_block
read_has_header left block e =
    let give : Header → Result (List ℕ) ℕ = λ h. cond (ltb (length left) h.size) (Err 12) (Ok (take h.size left)) in
    let r = bind_ok (read_header left) give block e in
    elim (chosen (ltb (length left) r.0.size) (Err 12) (Ok (take r.0.size left)) (Ok block) r.2) [
      | inl q ↦ absurd (err_is_not_ok 12 block q.1)
      | inr q ↦ (r.0, r.1, ltb-false (length left) r.0.size q.0, ok_is (take r.0.size left) block q.1)
    ]

-- a block that is read stays so when bytes follow
read_further : (a : ℕ) (bytes more block : List ℕ) → read_block (drop a bytes) ≡ Ok block → read_block (drop a (bytes ++ more)) ≡ Ok block
read_further a bytes more block e =
    let h = read_has_header (drop a bytes) block e in
    let long = (header_has_16 (drop a bytes) h.0 h.1).0 in
    ap read_block (drop-append-le a bytes more (omega (arith, long, length-drop a bytes))) ∙ read_block_front (drop a bytes) more block e

-- a block stays where it is while volumes grow
pub block_stays : (volumes later : List Volume) (name : List ℕ) (a : ℕ) (block : List ℕ) → Extends later volumes → IsBlockAt volumes name a block → IsBlockAt later name a block
block_stays volumes later name a block grown is =
    let g = grown name is.bytes is.found in
    record { bytes = is.bytes ++ g.0; found = g.1; whole = read_further a is.bytes g.0 block is.whole }

pub standing_stays_lem : StandingStays
standing_stays_lem volumes later place fragment grown stands =
    record { block = stands.block; there = block_stays volumes later place.volume place.address stands.block grown stands.there; at = stands.at }

-- at one address there is one block
pub one_block : (volumes : List Volume) (name : List ℕ) (a : ℕ) (one other : List ℕ) → IsBlockAt volumes name a one → IsBlockAt volumes name a other → one ≡ other
one_block volumes name a one other is also =
    let same : is.bytes ≡ also.bytes = same_Some _ _ (sym is.found ∙ also.found) in
    ok_is one other (sym is.whole ∙ ap (λ (bytes : List ℕ). read_block (drop a bytes)) same ∙ also.whole)

pub stands_once_lem : StandsOnce
stands_once_lem volumes place one other is also =
    let same = one_block volumes place.volume place.address is.block also.block is.there also.there in
    same_Some one other (sym is.at ∙ ap (λ (block : List ℕ). slice_get (fragments_of block) place.ordinal) same ∙ also.at)
