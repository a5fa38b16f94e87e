-- Hits in blocks to which walks come: walks reach them, and they are those of the meaning.
use Rattle.std.proofs.Common.{◌≡◌, ℕ, zero, suc, ◌+◌, ◌≤◌, ◌<◌, Bool, true, false, ◌&&◌, ◌||◌, ltb, List, [], ◌∷◌, ◌++◌, length, drop, Option, Some, None, Result, Ok, refl, sym, ap, subst, ◌∙◌, inl, inr, arith}
use Rattle.std.proofs.lemmas.Bool.{eqb-true, le-ltb, lt-ltb, ltb-false, or_parts}
use Rattle.std.proofs.lemmas.Option.{same_Some}
use Rattle.std.proofs.lemmas.List.{drop-drop}
use Rattle.std.proofs.lemmas.List.Elements.{Contains-append_left, Contains-append_right, Contains-append_cases}
use Rattle.std.specs.Prelude.{◌==◌, Contains, option_map, flat_map}
use Rattle.std.specs.List.{enumerate_from}
use Rattle.br_model.specs.Answer.{◌>>=◌, refuse_if, refused_as, some_or}
use Rattle.br_model.specs.Text.{is_empty}
use Rattle.br_model.specs.Block.{Header, read_header}
use Rattle.br_model.specs.Volume.{Volume, volume_bytes, LaidBlock, BlockFault, is_above, AreLaid, AreLaidFrom, next_block}
use Rattle.br_model.specs.Bootstrap.{Group}
use Rattle.br_model.specs.Meaning.{Piece, PieceFault, Hit, HasHit, IsHit, bound_of, is_covered, groups_on, just_groups, volumes_of, hits_in, hits_among, hits_on, hits_on_each, hits_of, meaning, pieces_of, blocks_for, first_hitting}
use Rattle.br_model.proofs.AnswerLaws.{bind_ok, chosen, ok_is, refuse_ok, refused_as_ok, some_mapped, some_or_ok}
use Rattle.br_model.proofs.ListLaws.{first_in, first_or_later, from_image, from_joined, later_in, none_in, not_empty_is_long}
use Rattle.br_model.proofs.VolumeLaws.{header_has_16, laid_block, walk_is_exact_lem, and_false}
use Rattle.br_model.proofs.PieceLaws.{piece_of}
use Rattle.br_model.proofs.FoundLaws.{hit_in_block}
use Rattle.br_model.proofs.PlanVolumeLaws.{uncovered_has_no_hits}
use Rattle.br_model.proofs.ReachLaws.{reached_are_hits_lem}
use Rattle.br_model.proofs.MeaningLaws.{meaning_has_hits_lem}
use Rattle.br_match.specs.Walk.{on_volume, unknown, step_among, step_on, rest_on, in_front, and_rest, ComesIn}
use Rattle.br_match.specs.Come.{IsCome, ComeIsReached, ComeIsMeant}
use Rattle.br_match.proofs.StepLaws.{rest_is_step_on, rest_from_0}

-- ---- what is found of a piece has the hits of each block to which its walk comes

-- what is found from an address on is what the step there finds, and what is found from the next address on
parted : (volumes : List Volume) (piece : Piece) (address next : ℕ) (batch rest : List Hit) → step_on volumes piece address ≡ Ok (Some (batch, next)) → rest_on volumes piece address ≡ Ok rest
    → (more : List Hit) × (rest_on volumes piece next ≡ Ok more) × (batch ++ more ≡ rest)
parted volumes piece address next batch rest step e =
    let is : in_front batch (rest_on volumes piece next) ≡ Ok rest = sym (ap (λ r. r >>= and_rest (rest_on volumes piece)) step) ∙ sym (rest_is_step_on volumes piece address) ∙ e in
    let p = bind_ok (rest_on volumes piece next) (λ more. Ok (batch ++ more)) rest is in
    (p.0, p.1, ok_is (batch ++ p.0) rest p.2)

-- from an address to which the walk comes on, what is found are hits of the piece
come_rest : (volumes : List Volume) (piece : Piece) (all : List Hit) → hits_on volumes piece ≡ Ok all → (n address : ℕ) → ComesIn n volumes piece address
    → (rest : List Hit) × (rest_on volumes piece address ≡ Ok rest) × ((h : Hit) → Contains rest h → Contains all h)
come_rest volumes piece all e zero address start =
    (all, ap (rest_on volumes piece) start ∙ rest_from_0 volumes piece ∙ e, λ h inside. inside)
come_rest volumes piece all e (suc n) address come =
    let r = come_rest volumes piece all e n come.0 come.2 in
    let p = parted volumes piece come.0 address come.1 r.0 come.3 r.1 in
    (p.0, p.1, λ h inside. r.2 h (subst (λ (hs : List Hit). Contains hs h) p.2 (Contains-append_right come.1 p.0 h inside)))

-- ---- what is found of each piece

found_of_each : (volumes : List Volume) (piece : Piece) (pieces : List Piece) (found : List Hit) → hits_on_each volumes (piece ∷ pieces) ≡ Ok found
    → (first : List Hit) × (more : List Hit) × (hits_on volumes piece ≡ Ok first) × (hits_on_each volumes pieces ≡ Ok more) × (first ++ more ≡ found)
unfolding hits_on_each
found_of_each volumes piece pieces found e =
    let join_lists : List Hit → List Hit → Result (List Hit) PieceFault = λ first more. Ok (first ++ more) in
    let p = bind_ok (hits_on volumes piece) (λ first. hits_on_each volumes pieces >>= join_lists first) found e in
    let q = bind_ok (hits_on_each volumes pieces) (join_lists p.0) found p.2 in
    (p.0, q.0, p.1, q.1, ok_is (p.0 ++ q.0) found q.2)

-- the hits of one of the pieces are among those of all
all_of_piece : (volumes : List Volume) (pieces : List Piece) (found : List Hit) (p : Piece) → hits_on_each volumes pieces ≡ Ok found → Contains pieces p
    → (hits : List Hit) × (hits_on volumes p ≡ Ok hits) × ((h : Hit) → Contains hits h → Contains found h)
all_of_piece volumes [] found p e among = absurd (none_in p among)
all_of_piece volumes (q ∷ qs) found p e among =
    let f = found_of_each volumes q qs found e in
    elim (first_or_later q qs p among) [
      | inl same ↦ (f.0, ap (hits_on volumes) (sym same) ∙ f.2, λ h inside. subst (λ (hs : List Hit). Contains hs h) f.4 (Contains-append_left f.0 f.1 h inside))
      | inr later ↦
          let r = all_of_piece volumes qs f.1 p f.3 later in
          (r.0, r.1, λ h inside. subst (λ (hs : List Hit). Contains hs h) f.4 (Contains-append_right f.0 f.1 h (r.2 h inside)))
    ]

-- a hit in a block to which a walk comes is found
pub come_is_found : (volumes : List Volume) (pieces : List Piece) (found : List Hit) (hit : Hit) → hits_on_each volumes pieces ≡ Ok found → IsCome volumes pieces hit → Contains found hit
come_is_found volumes pieces found hit e is =
    let all = all_of_piece volumes pieces found is.piece e is.among in
    let r = come_rest volumes is.piece all.0 all.1 is.come.0 is.address is.come.1 in
    let p = parted volumes is.piece is.address is.next is.batch r.0 is.step r.1 in
    all.2 hit (r.2 hit (subst (λ (hs : List Hit). Contains hs hit) p.2 (Contains-append_left is.batch p.0 hit is.inside)))

-- a found hit is one of a piece
pub found_is_of : (volumes : List Volume) (pieces : List Piece) (found : List Hit) (hit : Hit) → hits_on_each volumes pieces ≡ Ok found → Contains found hit
    → (p : Piece) × Contains pieces p × (hits : List Hit) × (hits_on volumes p ≡ Ok hits) × Contains hits hit
unfolding hits_on_each
found_is_of volumes [] found hit e inside = absurd (none_in hit (subst (λ (hs : List Hit). Contains hs hit) (sym (ok_is [] found e)) inside))
found_is_of volumes (q ∷ qs) found hit e inside =
    let f = found_of_each volumes q qs found e in
    elim (Contains-append_cases f.0 f.1 hit (subst (λ (hs : List Hit). Contains hs hit) (sym f.4) inside)) [
      | inl here ↦ (q, first_in q qs q refl, f.0, f.2, here)
      | inr there ↦ let r = found_is_of volumes qs f.1 hit f.3 there in (r.0, later_in q qs r.0 r.1, r.2, r.3, r.4)
    ]

-- ---- the block of a step

-- a block is at the address, whole if the address is covered, and the walk goes on after it
record IsPassed (numbered : List (ℕ × Group)) (bytes : List ℕ) (address : ℕ) (s : LaidBlock × ℕ) : Type 0 where
  head : Header
  some : 0 < length (drop address bytes)
  read : read_header (drop address bytes) ≡ Ok head
  whole : is_covered (just_groups numbered) address ≡ true → head.size ≤ length (drop address bytes)
  block : laid_block address (drop address bytes) head ≡ s.0
  next : address + head.size ≡ s.1

next_is_passed : (numbered : List (ℕ × Group)) (bytes : List ℕ) (address : ℕ) (s : LaidBlock × ℕ)
    → next_block bytes (bound_of (just_groups numbered)) (is_covered (just_groups numbered)) address ≡ Ok (Some s) → IsPassed numbered bytes address s
unfolding next_block
next_is_passed numbered bytes address s e =
    elim (chosen ended (Ok None) steps (Ok (Some s)) e) [
      | inl p ↦ absurd cc
      | inr p ↦
          let a = bind_ok (refused_as at (read_header left)) test (Some s) p.1 in
          let b = refuse_ok (is_covered gs address && ltb (length left) a.0.size) (at 12) (give a.0) (Some s) a.2 in
          let same : Some (laid_block address left a.0, address + a.0.size) ≡ Some s = ok_is _ _ b.1 in
          let pair : ◌≡◌ {A = LaidBlock × ℕ} (laid_block address left a.0, address + a.0.size) s = cc in
          record {
            head = a.0;
            some = not_empty_is_long left (or_parts (is_empty left) (is_above (bound_of gs) address) p.0).0;
            read = refused_as_ok at (read_header left) a.0 a.1;
            whole = λ q. ltb-false (length left) a.0.size (and_false (is_covered gs address) (ltb (length left) a.0.size) b.0 q);
            block = ap (λ (x : LaidBlock × ℕ). x.0) pair;
            next = ap (λ (x : LaidBlock × ℕ). x.1) pair;
          }
    ]
  where
    gs : List Group
    gs = just_groups numbered

    left : List ℕ
    left = drop address bytes

    at : ℕ → BlockFault
    at number = record { number = number; address = address }

    give : Header → Unit {0} → Result (Option (LaidBlock × ℕ)) BlockFault
    give h _ = Ok (Some (laid_block address left h, address + h.size))

    test : Header → Result (Option (LaidBlock × ℕ)) BlockFault
    test h = refuse_if (is_covered gs address && ltb (length left) h.size) (at 12) >>= give h

    ended : Bool
    ended = is_empty left || is_above (bound_of gs) address

    steps : Result (Option (LaidBlock × ℕ)) BlockFault
    steps = refused_as at (read_header left) >>= test

-- the volume of a step, and the block that it passes
record IsStepped (volumes : List Volume) (piece : Piece) (address next : ℕ) (batch : List Hit) : Type 0 where
  bytes : List ℕ
  found : volume_bytes volumes piece.volume ≡ Some bytes
  block : LaidBlock
  passed : IsPassed piece.groups bytes address (block, next)
  hits : hits_in piece.groups block ≡ batch

stepped : (volumes : List Volume) (piece : Piece) (address next : ℕ) (batch : List Hit) → step_on volumes piece address ≡ Ok (Some (batch, next)) → IsStepped volumes piece address next batch
unfolding step_on step_among
stepped volumes piece address next batch e =
    let gs = just_groups piece.groups in
    let a = bind_ok (some_or (volume_bytes volumes piece.volume) (unknown piece.volume)) there (Some (batch, next)) e in
    let among = refused_as_ok (on_volume piece.volume) (step_among piece.groups a.0 address) (Some (batch, next)) a.2 in
    let b = bind_ok (next_block a.0 (bound_of gs) (is_covered gs) address) show (Some (batch, next)) among in
    let m = some_mapped shown b.0 (batch, next) (ok_is (option_map shown b.0) (Some (batch, next)) b.2) in
    let number : m.0.1 ≡ next = ap (λ (x : List Hit × ℕ). x.1) m.2 in
    let pair : ◌≡◌ {A = LaidBlock × ℕ} m.0 (m.0.0, next) = λ t. (m.0.0, number t) in
    record {
      bytes = a.0;
      found = some_or_ok (volume_bytes volumes piece.volume) (unknown piece.volume) a.0 a.1;
      block = m.0.0;
      passed = next_is_passed piece.groups a.0 address (m.0.0, next) (b.1 ∙ ap Ok m.1 ∙ ap (λ (x : LaidBlock × ℕ). Ok (Some x)) pair);
      hits = ap (λ (x : List Hit × ℕ). x.0) m.2;
    }
  where
    shown : LaidBlock × ℕ → List Hit × ℕ
    shown s = (hits_in piece.groups s.0, s.1)

    show : Option (LaidBlock × ℕ) → Result (Option (List Hit × ℕ)) BlockFault
    show step = Ok (option_map shown step)

    there : List ℕ → Result (Option (List Hit × ℕ)) PieceFault
    there bytes = refused_as (on_volume piece.volume) (step_among piece.groups bytes address)

-- ---- up to a block to which a walk comes, its volume is laid

abbrev is_at : ℕ → ℕ → Bool
is_at place address = address == place

-- the volume is laid up to the place, and has this block
abbrev IsLaidTo : List ℕ → ℕ → LaidBlock → Type 0
IsLaidTo bytes place b = (blocks : List LaidBlock) × AreLaid bytes (Some place) (is_at place) blocks × Contains blocks b

laid_to : (volumes : List Volume) (piece : Piece) (bytes : List ℕ) (place : ℕ) (b : LaidBlock) → volume_bytes volumes piece.volume ≡ Some bytes → (n address : ℕ)
    → ComesIn n volumes piece address → address ≤ place → (blocks : List LaidBlock) → AreLaidFrom address (drop address bytes) (Some place) (is_at place) blocks
    → Contains blocks b → IsLaidTo bytes place b
laid_to volumes piece bytes place b found zero address start near blocks laid among =
    (blocks, subst (λ (a : ℕ). AreLaidFrom a (drop a bytes) (Some place) (is_at place) blocks) start laid, among)
laid_to volumes piece bytes place b found (suc n) address come near blocks laid among =
    let s = stepped volumes piece come.0 address come.1 come.3 in
    let same : s.bytes ≡ bytes = same_Some s.bytes bytes (sym s.found ∙ found) in
    let p = subst (λ (xs : List ℕ). IsPassed piece.groups xs come.0 (s.block, address)) same s.passed in
    let left = drop come.0 bytes in
    let size : 16 ≤ p.head.size = (header_has_16 left p.head p.read).1 in
    let next : come.0 + p.head.size ≡ address = p.next in
    let after : drop p.head.size left ≡ drop address bytes = drop-drop p.head.size come.0 bytes ∙ ap (λ (a : ℕ). drop a bytes) next in
    let rest : AreLaidFrom (come.0 + p.head.size) (drop p.head.size left) (Some place) (is_at place) blocks =
    subst (λ (xs : List ℕ). AreLaidFrom (come.0 + p.head.size) xs (Some place) (is_at place) blocks) (sym after)
    (subst (λ (a : ℕ). AreLaidFrom a (drop address bytes) (Some place) (is_at place) blocks) (sym next) laid) in
    laid_to volumes piece bytes place b found n come.0 come.2 (omega (arith, next, near)) (laid_block come.0 left p.head ∷ blocks)
    (p.some, le-ltb place come.0 (omega (arith, next, near)), p.head, p.read, (λ q. let e = eqb-true come.0 place q in absurd (omega (arith, e, next, near, size))), refl, rest)
    (later_in (laid_block come.0 left p.head) blocks b among)

-- ---- the laws

-- a piece of a bootstrap has the groups on its volume
groups_are : (groups : List Group) (p : Piece) → Contains (pieces_of groups) p → p.groups ≡ groups_on groups p.volume
unfolding pieces_of
groups_are groups p among =
    let r = from_image (piece_of groups) (enumerate_from 0 (volumes_of groups)) p among in
    subst (λ (q : Piece). q.groups ≡ groups_on groups q.volume) r.2 refl

-- a block with hits is at an address that is covered
is_asked : (numbered : List (ℕ × Group)) (b : LaidBlock) (h : Hit) → Contains (hits_in numbered b) h → is_covered (just_groups numbered) b.address ≡ true
is_asked numbered b h inside = go (is_covered (just_groups numbered) b.address) refl
  where
    go : (c : Bool) → is_covered (just_groups numbered) b.address ≡ c → c ≡ true
    go true e = refl
    go false e = absurd (none_in h (subst (λ (hs : List Hit). Contains hs h) (uncovered_has_no_hits numbered b e) inside))

pub come_is_reached : ComeIsReached
come_is_reached groups volumes hit is =
    let s = stepped volumes is.piece is.address is.next is.batch is.step in
    let p = s.passed in
    let left = drop is.address s.bytes in
    let size : 16 ≤ p.head.size = (header_has_16 left p.head p.read).1 in
    let inside : Contains (hits_in is.piece.groups s.block) hit = subst (λ (hs : List Hit). Contains hs hit) (sym s.hits) is.inside in
    let at : s.block.address ≡ is.address = ap (λ (b : LaidBlock). b.address) (sym p.block) in
    let asked : is_covered (just_groups is.piece.groups) is.address ≡ true = ap (is_covered (just_groups is.piece.groups)) (sym at) ∙ is_asked is.piece.groups s.block hit inside in
    let here : AreLaidFrom is.address left (Some is.address) (is_at is.address) (s.block ∷ []) =
    (p.some, le-ltb is.address is.address (omega arith), p.head, p.read, (λ q. p.whole asked), sym p.block, inr (lt-ltb is.address (is.address + p.head.size) (omega (arith, size)))) in
    let r = laid_to volumes is.piece s.bytes is.address s.block s.found is.come.0 is.address is.come.1 (omega arith) (s.block ∷ []) here (first_in s.block [] s.block refl) in
    let h = hit_in_block is.piece.groups s.block hit inside in
    let place : is.address ≡ hit.spot.address = sym at ∙ sym h.address in
    record {
      volume = is.piece.volume;
      bytes = s.bytes;
      blocks = r.0;
      block = s.block;
      found = s.found;
      laid = subst (λ (a : ℕ). AreLaid s.bytes (Some a) (is_at a) r.0) place r.1;
      among = r.2;
      address = h.address;
      ordinal = h.ordinal;
      group = subst (λ (gs : List (ℕ × Group)). first_hitting gs s.block.address hit.fragment ≡ Some hit.spot.group) (groups_are groups is.piece is.among) h.group;
      key = h.key;
    }

pub come_is_meant : ComeIsMeant
come_is_meant groups volumes set hit means is =
    (meaning_has_hits_lem groups volumes set hit means).1 ((reached_are_hits_lem groups volumes set hit means).0 (come_is_reached groups volumes hit is))

-- ---- found hits and their set

-- what is found of a piece of a bootstrap is a hit
found_is_hit : (groups : List Group) (volumes : List Volume) (p : Piece) (hits : List Hit) (hit : Hit) → Contains (pieces_of groups) p → hits_on volumes p ≡ Ok hits → Contains hits hit
    → IsHit groups volumes hit
unfolding hits_on hits_among
found_is_hit groups volumes p hits hit one e inside =
    let gs = just_groups p.groups in
    let a = bind_ok (some_or (volume_bytes volumes p.volume) (unknown p.volume)) search hits e in
    let b = bind_ok (blocks_for p.groups a.0) gather hits (refused_as_ok (on_volume p.volume) (hits_among p.groups a.0) hits a.2) in
    let among : Contains (flat_map (hits_in p.groups) b.0) hit = subst (λ (hs : List Hit). Contains hs hit) (sym (ok_is (flat_map (hits_in p.groups) b.0) hits b.2)) inside in
    let c = from_joined (hits_in p.groups) b.0 hit among in
    let h = hit_in_block p.groups c.0 hit c.2 in
    let are = groups_are groups p one in
    let laid : AreLaid a.0 (bound_of gs) (is_covered gs) b.0 = (walk_is_exact_lem a.0 (bound_of gs) (is_covered gs) b.0).0 b.1 in
    record {
      volume = p.volume;
      bytes = a.0;
      blocks = b.0;
      block = c.0;
      found = some_or_ok (volume_bytes volumes p.volume) (unknown p.volume) a.0 a.1;
      laid = subst (λ (ns : List (ℕ × Group)). AreLaid a.0 (bound_of (just_groups ns)) (is_covered (just_groups ns)) b.0) are laid;
      among = c.1;
      address = h.address;
      ordinal = h.ordinal;
      group = subst (λ (ns : List (ℕ × Group)). first_hitting ns c.0.address hit.fragment ≡ Some hit.spot.group) are h.group;
      key = h.key;
    }
  where
    gather : List LaidBlock → Result (List Hit) BlockFault
    gather blocks = Ok (flat_map (hits_in p.groups) blocks)

    search : List ℕ → Result (List Hit) PieceFault
    search bytes = refused_as (on_volume p.volume) (hits_among p.groups bytes)

-- each found hit of a bootstrap is in the set of all
pub found_are_held : (groups : List Group) (volumes : List Volume) (found : List Hit) (hit : Hit) → hits_on_each volumes (pieces_of groups) ≡ Ok found → Contains found hit
    → HasHit (hits_of found) hit
unfolding meaning
found_are_held groups volumes found hit e inside =
    let f = found_is_of volumes (pieces_of groups) found hit e inside in
    let means : meaning groups volumes ≡ Ok (hits_of found) = ap (λ r. r >>= λ (hs : List Hit). Ok (hits_of hs)) e in
    (meaning_has_hits_lem groups volumes (hits_of found) hit means).1 (found_is_hit groups volumes f.0 f.2 hit f.1 f.3 f.4)
