-- The walk of a piece that is bounded is the same over all volumes that go on from its own.
use Rattle.std.proofs.Common.{◌≡◌, ℕ, ◌+◌, ◌<◌, ◌≤◌, Bool, true, false, ◌&&◌, ◌||◌, ltb, List, ◌++◌, length, take, drop, Option, Some, None, Result, Ok, Err, cond, ap, sym, ◌∙◌, refl, arith}
use Rattle.std.proofs.lemmas.Bool.{ltb-false, le-ltb, or_right}
use Rattle.std.proofs.lemmas.List.{length-append, take-append-le, drop-append-le}
use Rattle.std.specs.Prelude.{nat_lt}
use Rattle.br_model.specs.Text.{is_empty}
use Rattle.br_model.specs.Block.{Header, read_header}
use Rattle.br_model.specs.Volume.{Volume, volume_bytes, Extends, is_above, next_block}
use Rattle.br_model.specs.Meaning.{Piece, PieceFault, Hit, bound_of, is_covered, just_groups, hits_in, hits_on}
use Rattle.br_model.proofs.AnswerLaws.{bind_ok}
use Rattle.br_model.proofs.SpanLaws.{read_header_more}
use Rattle.br_model.proofs.VolumeLaws.{laid_block, and_false}
use Rattle.br_match.specs.Walk.{step_among, step_on, rest_on, and_rest, Follows, HasHead}
use Rattle.br_match.proofs.StepLaws.{rest_is_step_on}
use Rattle.br_match.proofs.SeenLaws.{step_in, step_of_head, step_of_bad_head, step_uncovered}

-- the piece has hits on the volumes, and its walk ends after an address that has a byte there
pub record IsBounded (volumes : List Volume) (piece : Piece) : Type 0 where
  pub hits : List Hit
  pub defined : hits_on volumes piece ≡ Ok hits
  pub bytes : List ℕ
  pub found : volume_bytes volumes piece.volume ≡ Some bytes
  pub end : ℕ
  pub bound_is : bound_of (just_groups piece.groups) ≡ Some end
  pub within : end < length bytes

-- ---- what a step that is not refused says of its block

-- above the bound the walk is at its end (as `step_at_end` of br_match)
ends_above : (volumes : List Volume) (piece : Piece) (a : ℕ) (bytes : List ℕ) → volume_bytes volumes piece.volume ≡ Some bytes
    → is_above (bound_of (just_groups piece.groups)) a ≡ true → step_on volumes piece a ≡ Ok None
unfolding step_on step_among next_block
ends_above volumes piece a bytes found above =
    let ends : (is_empty (drop a bytes) || is_above (bound_of (just_groups piece.groups)) a) ≡ true = or_right (is_empty (drop a bytes)) (is_above (bound_of (just_groups piece.groups)) a) above in
    rw found (rw ends refl)

-- a block's header, and the whole block if the address is covered (as in br_match)
record IsBlockAt (piece : Piece) (a : ℕ) (left : List ℕ) : Type 0 where
  head : Header
  read : read_header left ≡ Ok head
  whole : is_covered (just_groups piece.groups) a ≡ true → head.size ≤ length left

-- a step that is not refused has a block (as in br_match)
block_of_step : (volumes : List Volume) (piece : Piece) (a : ℕ) (bytes : List ℕ) (s : Option (List Hit × ℕ)) → is_above (bound_of (just_groups piece.groups)) a ≡ false
    → volume_bytes volumes piece.volume ≡ Some bytes → a < length bytes → step_on volumes piece a ≡ Ok s → IsBlockAt piece a (drop a bytes)
block_of_step volumes piece a bytes s near found within e = go (read_header (drop a bytes)) refl
  where
    go : (r : Result Header ℕ) → read_header (drop a bytes) ≡ r → IsBlockAt piece a (drop a bytes)
    go (Err n) read = let bad = sym (step_of_bad_head volumes piece a bytes n near found within read) ∙ e in absurd cc
    go (Ok h) read =
        let is = sym (step_of_head volumes piece a h near (record { bytes = bytes; found = found; within = within; read = read })) ∙ e in
        record { head = h; read = read; whole = whole (is_covered (just_groups piece.groups) a && ltb (length (drop a bytes)) h.size) refl is }
      where
        whole : (b : Bool) → (is_covered (just_groups piece.groups) a && ltb (length (drop a bytes)) h.size) ≡ b
            → cond {A = Result (Option (List Hit × ℕ)) PieceFault} b (Err (record { number = 12; volume = piece.volume; address = a })) (Ok (Some (hits_in piece.groups (laid_block a (drop a bytes) h), a + h.size))) ≡ Ok s
            → is_covered (just_groups piece.groups) a ≡ true → h.size ≤ length (drop a bytes)
        whole true short is c = absurd cc
        whole false short is c = ltb-false (length (drop a bytes)) h.size (and_false _ _ short c)

-- the next step of a walk of a piece that has hits is not refused (as in br_match)
step_follows : (volumes : List Volume) (piece : Piece) (a : ℕ) (hits : List Hit) → Follows volumes piece a → hits_on volumes piece ≡ Ok hits
    → (s : Option (List Hit × ℕ)) × (step_on volumes piece a ≡ Ok s)
step_follows volumes piece a hits follows e =
    let r = follows.rest hits e in
    let p = bind_ok (step_on volumes piece a) (and_rest (rest_on volumes piece)) r.0 (sym (rest_is_step_on volumes piece a) ∙ r.1) in
    (p.0, p.1)

-- ---- steps over volumes that go on

-- a whole block's step
whole_step : (piece : Piece) (left : List ℕ) (a : ℕ) (h : Header) → h.size ≤ length left
    → step_in piece left a h ≡ Ok (Some (hits_in piece.groups (record { address = a; bytes = take h.size left }), a + h.size))
whole_step piece left a h fits = go (is_covered (just_groups piece.groups) a) (ltb (length left) h.size) (le-ltb (length left) h.size fits)
  where
    go : (b c : Bool) → c ≡ false
        → cond {A = Result (Option (List Hit × ℕ)) PieceFault} (b && c) (Err (record { number = 12; volume = piece.volume; address = a })) (Ok (Some (hits_in piece.groups (laid_block a left h), a + h.size)))
        ≡ Ok (Some (hits_in piece.groups (record { address = a; bytes = take h.size left }), a + h.size))
    go true true e = absurd cc
    go true false e = refl
    go false c e = refl

-- over a volume with more bytes a step is the step over these, unless the block is covered and cut
-- off
step_over_more : (volumes later : List Volume) (piece : Piece) (a : ℕ) (bytes more : List ℕ) → is_above (bound_of (just_groups piece.groups)) a ≡ false
    → volume_bytes volumes piece.volume ≡ Some bytes → volume_bytes later piece.volume ≡ Some (bytes ++ more) → a < length bytes → IsBlockAt piece a (drop a bytes)
    → step_on later piece a ≡ step_on volumes piece a
step_over_more volumes later piece a bytes more near found grown within block =
    go (is_covered (just_groups piece.groups) a) refl
  where
    h : Header
    h = block.head

    front : drop a (bytes ++ more) ≡ drop a bytes ++ more
    front = drop-append-le a bytes more (omega (arith, within))

    here : HasHead volumes piece a h
    here = record { bytes = bytes; found = found; within = within; read = block.read }

    there : HasHead later piece a h
    there = record {
      bytes = bytes ++ more;
      found = grown;
      within = omega (arith, within, length-append bytes more);
      read = ap read_header front ∙ read_header_more (drop a bytes) more h block.read;
    }

    go : (b : Bool) → is_covered (just_groups piece.groups) a ≡ b → step_on later piece a ≡ step_on volumes piece a
    go false uncovered = step_uncovered later piece a h near uncovered there ∙ sym (step_uncovered volumes piece a h near uncovered here)
    go true covered =
        let fits : h.size ≤ length (drop a bytes) = block.whole covered in
        let fits_there : h.size ≤ length (drop a (bytes ++ more)) = omega (arith, fits, ap length front, length-append (drop a bytes) more) in
        let same : take h.size (drop a (bytes ++ more)) ≡ take h.size (drop a bytes) = ap (take h.size) front ∙ take-append-le h.size (drop a bytes) more fits in
        step_of_head later piece a h near there ∙ whole_step piece (drop a (bytes ++ more)) a h fits_there
        ∙ ap (λ (xs : List ℕ). Ok (Some (hits_in piece.groups (record { address = a; bytes = xs }), a + h.size))) same
        ∙ sym (step_of_head volumes piece a h near here ∙ whole_step piece (drop a bytes) a h fits)

-- the step of a walk of a bounded piece over volumes that extend others is its step over these
pub step_alike : (volumes later : List Volume) (piece : Piece) (a : ℕ) → IsBounded volumes piece → Follows volumes piece a → Extends later volumes
    → step_on later piece a ≡ step_on volumes piece a
step_alike volumes later piece a is follows extends = go (is_above (bound_of (just_groups piece.groups)) a) refl
  where
    grown : (more : List ℕ) × (volume_bytes later piece.volume ≡ Some (is.bytes ++ more))
    grown = extends piece.volume is.bytes is.found

    go : (b : Bool) → is_above (bound_of (just_groups piece.groups)) a ≡ b → step_on later piece a ≡ step_on volumes piece a
    go true above = ends_above later piece a (is.bytes ++ grown.0) grown.1 above ∙ sym (ends_above volumes piece a is.bytes is.found above)
    go false near =
        let low : nat_lt is.end a ≡ false = ap (λ (o : Option ℕ). is_above o a) (sym is.bound_is) ∙ near in
        let within : a < length is.bytes = omega (arith, ltb-false is.end a low, is.within) in
        let s = step_follows volumes piece a is.hits follows is.defined in
        step_over_more volumes later piece a is.bytes grown.0 near is.found grown.1 within (block_of_step volumes piece a is.bytes s.0 near is.found within s.1)
