-- What a call of a drive says of the step of a walk, over volumes that the drive may be taken to
-- show.
use Rattle.std.proofs.Common.{◌≡◌, ℕ, ◌+◌, ◌<◌, ◌≤◌, ◌⊎◌, Bool, true, false, ◌&&◌, ◌||◌, ltb, List, [], ◌∷◌, ◌++◌, length, take, drop, Option, Some, None, Result, Ok, Err, cond, ap, sym, ◌∙◌, refl, subst, inl, inr, arith, append_assoc}
use Rattle.std.proofs.lemmas.Bool.{cases_lt, ltb-true, ltb-false, le-ltb, lt-ltb, or_right}
use Rattle.std.proofs.lemmas.Option.{same_Some}
use Rattle.std.proofs.lemmas.List.{length-append, length-drop, length-take, length-take-le, take-append-le, take-append-drop, drop-append-le, append-nil, nil_from_length}
use Rattle.std.specs.Prelude.{fold, nat_lt, max, option_map}
use Rattle.std.specs.List.{AllByRecursion, list_any}
use Rattle.br_model.specs.Answer.{◌>>=◌, refuse_if, refused_as, some_or}
use Rattle.br_model.specs.Text.{is_empty}
use Rattle.br_model.specs.Block.{Header, header_length, read_header, read_block}
use Rattle.br_model.specs.Volume.{Volume, volume_bytes, Extends, LaidBlock, BlockFault, is_above, next_block}
use Rattle.br_model.specs.Bootstrap.{Group}
use Rattle.br_model.specs.Meaning.{Piece, PieceFault, Hit, last_address, bound_of, is_covered, just_groups, hits_in, hits_on}
use Rattle.br_model.proofs.AnswerLaws.{bind_ok, ok_is, err_is, chosen}
use Rattle.br_model.proofs.ListLaws.{long_is_not_empty}
use Rattle.br_model.proofs.SpanLaws.{read_header_alone, read_header_more, read_header_within}
use Rattle.br_model.proofs.VolumeLaws.{header_reads, laid_block, and_false}
use Rattle.br_model.proofs.PlanVolumeLaws.{uncovered_has_no_hits}
use Rattle.br_volume.specs.Drive.{bytes_from, bytes_shown}
use Rattle.br_volume.proofs.DriveLaws.{shown_end, shown_block, not_shown}
use Rattle.br_match.specs.Matching.{IsEnclosed, StandsFor}
use Rattle.br_match.specs.Walk.{on_volume, unknown, step_among, step_on, rest_on, and_rest, Follows, HasHead}
use Rattle.br_match.proofs.StepLaws.{rest_is_step_on}

-- ---- headers and blocks at the front of some bytes

-- in the number of bytes that a header states, the block is whole if they are there
block_alone : (left : List ℕ) (h : Header) → read_header left ≡ Ok h
    → read_block (take h.size left) ≡ cond (ltb (length left) h.size) (Err 12) (Ok (take h.size left))
unfolding read_block
block_alone left h read =
    let r = header_reads left h read in
    let long : header_length h.session ≤ length (take h.size left) = omega (arith, ap header_length r.session_is, r.long, r.size_from, length-take h.size left) in
    let head : read_header (take h.size left) ≡ Ok h =
    read_header_within (take h.size left) (drop h.size left) h (ap read_header (take-append-drop h.size left) ∙ read) long in
    ap (λ r. r >>= λ (g : Header). cond (ltb (length (take h.size left)) g.size) (Err 12) (Ok (take g.size (take h.size left)))) head
    ∙ elim (cases_lt (length left) h.size) [
      | inl short ↦ rw (lt-ltb (length left) h.size short, lt-ltb (length (take h.size left)) h.size (omega (arith, length-take h.size left))) refl
      | inr fits ↦
          let size = length-take-le h.size left fits in
          let again : take h.size (take h.size left) ≡ take h.size left = take_again h.size left fits in
          rw (le-ltb (length left) h.size fits, le-ltb (length (take h.size left)) h.size (omega (arith, size)), again) refl
    ]
  where
    take_again : (n : ℕ) (xs : List ℕ) → n ≤ length xs → take n (take n xs) ≡ take n xs
    take_again n xs fits =
        sym (take-append-le n (take n xs) (drop n xs) (omega (arith, length-take-le n xs fits))) ∙ ap (take n) (take-append-drop n xs)

-- ---- what a step is

-- the step at an address that has a header
abbrev pub step_in : Piece → List ℕ → ℕ → Header → Result (Option (List Hit × ℕ)) PieceFault
step_in piece left address h =
    cond (is_covered (just_groups piece.groups) address && ltb (length left) h.size)
    (Err (record { number = 12; volume = piece.volume; address = address }))
    (Ok (Some (hits_in piece.groups (laid_block address left h), address + h.size)))

next_is : (numbered : List (ℕ × Group)) (bytes : List ℕ) (address : ℕ) → is_above (bound_of (just_groups numbered)) address ≡ false → address < length bytes
    → (r : Result Header ℕ) → read_header (drop address bytes) ≡ r
    → next_block bytes (bound_of (just_groups numbered)) (is_covered (just_groups numbered)) address
    ≡ (refused_as (λ (number : ℕ). record { number = number; address = address }) r >>= λ (h : Header).
    refuse_if (is_covered (just_groups numbered) address && ltb (length (drop address bytes)) h.size) (record { number = 12; address = address })
    >>= λ _. Ok (Some (laid_block address (drop address bytes) h, address + h.size)))
unfolding next_block
next_is numbered bytes address near within r read =
    let some : is_empty (drop address bytes) ≡ false = long_is_not_empty (drop address bytes) (omega (arith, length-drop address bytes, within)) in
    rw (some, near, read) refl

-- at a header
pub step_of_head : (volumes : List Volume) (piece : Piece) (address : ℕ) (h : Header) → is_above (bound_of (just_groups piece.groups)) address ≡ false
    → (has : HasHead volumes piece address h) → step_on volumes piece address ≡ step_in piece (drop address has.bytes) address h
unfolding step_on step_among
step_of_head volumes piece address h near has =
    let gs = just_groups piece.groups in
    let short : Bool = is_covered gs address && ltb (length (drop address has.bytes)) h.size in
    ap (λ o. some_or o (unknown piece.volume) >>= λ bytes. refused_as (on_volume piece.volume) (step_among piece.groups bytes address)) has.found
    ∙ ap (λ r. refused_as (on_volume piece.volume) (r >>= show)) (next_is piece.groups has.bytes address near has.within (Ok h) has.read)
    ∙ told short
  where
    show : Option (LaidBlock × ℕ) → Result (Option (List Hit × ℕ)) BlockFault
    show step = Ok (option_map (λ (s : LaidBlock × ℕ). (hits_in piece.groups s.0, s.1)) step)

    told : (b : Bool)
        → refused_as (on_volume piece.volume) ((refuse_if b (record { number = 12; address = address }) >>= λ _. Ok (Some (laid_block address (drop address has.bytes) h, address + h.size))) >>= show)
        ≡ cond b (Err (record { number = 12; volume = piece.volume; address = address })) (Ok (Some (hits_in piece.groups (laid_block address (drop address has.bytes) h), address + h.size)))
    told true = refl
    told false = refl

-- at a bad header
pub step_of_bad_head : (volumes : List Volume) (piece : Piece) (address : ℕ) (bytes : List ℕ) (number : ℕ) → is_above (bound_of (just_groups piece.groups)) address ≡ false
    → volume_bytes volumes piece.volume ≡ Some bytes → address < length bytes → read_header (drop address bytes) ≡ Err number
    → step_on volumes piece address ≡ Err (record { number = number; volume = piece.volume; address = address })
unfolding step_on step_among
step_of_bad_head volumes piece address bytes number near found within read =
    ap (λ o. some_or o (unknown piece.volume) >>= λ bytes. refused_as (on_volume piece.volume) (step_among piece.groups bytes address)) found
    ∙ ap (λ r. refused_as (on_volume piece.volume) (r >>= show)) (next_is piece.groups bytes address near within (Err number) read)
  where
    show : Option (LaidBlock × ℕ) → Result (Option (List Hit × ℕ)) BlockFault
    show step = Ok (option_map (λ (s : LaidBlock × ℕ). (hits_in piece.groups s.0, s.1)) step)

-- on an unknown volume
pub step_of_unknown : (volumes : List Volume) (piece : Piece) (address : ℕ) → volume_bytes volumes piece.volume ≡ None → step_on volumes piece address ≡ Err (unknown piece.volume)
unfolding step_on
step_of_unknown volumes piece address none = rw none refl

-- at the end of the walk
step_at_end : (volumes : List Volume) (piece : Piece) (address : ℕ) (bytes : List ℕ) → volume_bytes volumes piece.volume ≡ Some bytes
    → (is_empty (drop address bytes) || is_above (bound_of (just_groups piece.groups)) address) ≡ true → step_on volumes piece address ≡ Ok None
unfolding step_on step_among next_block
step_at_end volumes piece address bytes found ends = rw found (rw ends refl)

-- above the bound
pub step_above : (volumes : List Volume) (piece : Piece) (address : ℕ) → Follows volumes piece address → is_above (bound_of (just_groups piece.groups)) address ≡ true
    → step_on volumes piece address ≡ Ok None
step_above volumes piece address follows above = go (volume_bytes volumes piece.volume) refl
  where
    never : (bound : Option ℕ) → is_above bound 0 ≡ true → ⊥
    never None e = absurd cc
    never (Some n) e = absurd (omega (arith, ltb-true n 0 e))

    go : (o : Option (List ℕ)) → volume_bytes volumes piece.volume ≡ o → step_on volumes piece address ≡ Ok None
    go None is = absurd (never (bound_of (just_groups piece.groups)) (subst (λ (a : ℕ). is_above (bound_of (just_groups piece.groups)) a ≡ true) (follows.there is) above))
    go (Some bytes) is = step_at_end volumes piece address bytes is (or_right (is_empty (drop address bytes)) (is_above (bound_of (just_groups piece.groups)) address) above)

-- ---- the walk of an enclosed piece stays within the bytes

below_all : (L n : ℕ) (gs : List (ℕ × Group)) → n < L → AllByRecursion (λ (g : ℕ × Group). (is_empty g.1.addresses ≡ false) × (last_address g.1 < L)) gs
    → fold (λ m g. max m (last_address g)) n (just_groups gs) < L
below_all L n [] lt all = lt
below_all L n (g ∷ gs) lt all = below_all L (max n (last_address g.1)) gs (omega (arith, lt, all.0.1)) all.1

none_whole : (L : ℕ) (gs : List (ℕ × Group)) → AllByRecursion (λ (g : ℕ × Group). (is_empty g.1.addresses ≡ false) × (last_address g.1 < L)) gs
    → list_any (λ (g : Group). is_empty g.addresses) (just_groups gs) ≡ false
none_whole L [] all = refl
none_whole L (g ∷ gs) all = rw (all.0.0) (none_whole L gs all.1)

some_length : (L : ℕ) (gs : List (ℕ × Group)) → 0 < length gs → AllByRecursion (λ (g : ℕ × Group). (is_empty g.1.addresses ≡ false) × (last_address g.1 < L)) gs → 0 < L
some_length L [] some all = absurd (omega arith)
some_length L (g ∷ gs) some all = omega (arith, all.0.1)

inside : (L : ℕ) (gs : List (ℕ × Group)) (address : ℕ) → 0 < length gs → AllByRecursion (λ (g : ℕ × Group). (is_empty g.1.addresses ≡ false) × (last_address g.1 < L)) gs
    → is_above (bound_of (just_groups gs)) address ≡ false → address < L
unfolding bound_of
inside L gs address some all near =
    let last : ℕ = fold (λ m g. max m (last_address g)) 0 (just_groups gs) in
    let here : is_above (cond (list_any (λ (g : Group). is_empty g.addresses) (just_groups gs)) None (Some last)) address ≡ false = near in
    let below : last < L = below_all L 0 gs (some_length L gs some all) all in
    let not_above : nat_lt last address ≡ false = ap (λ b. is_above (cond b None (Some last)) address) (sym (none_whole L gs all)) ∙ here in
    omega (arith, ltb-false last address not_above, below)

-- a block's header, and the whole block if the address is covered
record IsBlockAt (piece : Piece) (address : ℕ) (left : List ℕ) : Type 0 where
  head : Header
  read : read_header left ≡ Ok head
  whole : is_covered (just_groups piece.groups) address ≡ true → head.size ≤ length left

-- a step that is not refused
block_of_step : (volumes : List Volume) (piece : Piece) (address : ℕ) (bytes : List ℕ) (s : Option (List Hit × ℕ)) → is_above (bound_of (just_groups piece.groups)) address ≡ false
    → volume_bytes volumes piece.volume ≡ Some bytes → address < length bytes → step_on volumes piece address ≡ Ok s → IsBlockAt piece address (drop address bytes)
block_of_step volumes piece address bytes s near found within e = go (read_header (drop address bytes)) refl
  where
    go : (r : Result Header ℕ) → read_header (drop address bytes) ≡ r → IsBlockAt piece address (drop address bytes)
    go (Err n) read = let bad = sym (step_of_bad_head volumes piece address bytes n near found within read) ∙ e in absurd cc
    go (Ok h) read =
        let is = sym (step_of_head volumes piece address h near (record { bytes = bytes; found = found; within = within; read = read })) ∙ e in
        record { head = h; read = read; whole = whole (is_covered (just_groups piece.groups) address && ltb (length (drop address bytes)) h.size) refl is }
      where
        whole : (b : Bool) → (is_covered (just_groups piece.groups) address && ltb (length (drop address bytes)) h.size) ≡ b
            → cond {A = Result (Option (List Hit × ℕ)) PieceFault} b (Err (record { number = 12; volume = piece.volume; address = address })) (Ok (Some (hits_in piece.groups (laid_block address (drop address bytes) h), address + h.size))) ≡ Ok s
            → is_covered (just_groups piece.groups) address ≡ true → h.size ≤ length (drop address bytes)
        whole true short is c = absurd cc
        whole false short is c = ltb-false (length (drop address bytes)) h.size (and_false _ _ short c)

-- the step of a piece that is not refused
step_follows : (volumes : List Volume) (piece : Piece) (address : ℕ) (hits : List Hit) → Follows volumes piece address → hits_on volumes piece ≡ Ok hits
    → (s : Option (List Hit × ℕ)) × (step_on volumes piece address ≡ Ok s)
step_follows volumes piece address hits follows e =
    let r = follows.rest hits e in
    let p = bind_ok (step_on volumes piece address) (and_rest (rest_on volumes piece)) r.0 (sym (rest_is_step_on volumes piece address) ∙ r.1) in
    (p.0, p.1)

-- ---- what is seen of volumes

-- the volume is there and is shown with more bytes, none or such as do not matter
pub record Seen (volumes shown : List Volume) (piece : Piece) : Type 0 where
  pub bytes : List ℕ
  pub more : List ℕ
  pub found : volume_bytes volumes piece.volume ≡ Some bytes
  pub shown_is : volume_bytes shown piece.volume ≡ Some (bytes ++ more)
  pub as_is : (more ≡ []) ⊎ IsEnclosed volumes piece

pub seen : (volumes earlier later : List Volume) (piece : Piece) → Extends later earlier → StandsFor earlier later piece volumes
    → ((volume_bytes volumes piece.volume ≡ None) × (volume_bytes later piece.volume ≡ None)) ⊎ Seen volumes later piece
seen volumes earlier later piece grows stands = go (volume_bytes volumes piece.volume) refl stands.1
  where
    none : Extends volumes later → (o : Option (List ℕ)) → volume_bytes later piece.volume ≡ o → volume_bytes volumes piece.volume ≡ None → volume_bytes later piece.volume ≡ None
    none back None is e = is
    none back (Some b) is e = let p = back piece.volume b is in absurd (never (sym e ∙ p.1))
      where
        never : {x : List ℕ} → ◌≡◌ {A = Option (List ℕ)} None (Some x) → ⊥
        never q = absurd cc

    longer : (bytes : List ℕ) → volume_bytes volumes piece.volume ≡ Some bytes → ((more : List ℕ) → volume_bytes later piece.volume ≡ Some (bytes ++ more) → (more ≡ []) ⊎ IsEnclosed volumes piece) → Seen volumes later piece
    longer bytes is how =
        let first = stands.0 piece.volume bytes is in
        let second = grows piece.volume (bytes ++ first.0) first.1 in
        let joined : volume_bytes later piece.volume ≡ Some (bytes ++ (first.0 ++ second.0)) = second.1 ∙ ap (λ (xs : List ℕ). Some xs) (simp append_assoc) in
        record { bytes = bytes; more = first.0 ++ second.0; found = is; shown_is = joined; as_is = how (first.0 ++ second.0) joined }

    same : Extends volumes later → (bytes : List ℕ) → volume_bytes volumes piece.volume ≡ Some bytes → (more : List ℕ) → volume_bytes later piece.volume ≡ Some (bytes ++ more) → more ≡ []
    same back bytes is more shown =
        let p = back piece.volume (bytes ++ more) shown in
        let e : bytes ≡ (bytes ++ more) ++ p.0 = same_Some bytes ((bytes ++ more) ++ p.0) (sym is ∙ p.1) in
        nil_from_length more (omega (arith, ap length e, length-append (bytes ++ more) p.0, length-append bytes more))

    go : (o : Option (List ℕ)) → volume_bytes volumes piece.volume ≡ o → (Extends volumes later ⊎ IsEnclosed volumes piece)
        → ((volume_bytes volumes piece.volume ≡ None) × (volume_bytes later piece.volume ≡ None)) ⊎ Seen volumes later piece
    go None is (inl back) = inl (is, none back (volume_bytes later piece.volume) refl is)
    go None is (inr enclosed) = let p = sym is ∙ enclosed.found in absurd cc
    go (Some bytes) is (inl back) = inr (longer bytes is (λ more shown. inl (same back bytes is more shown)))
    go (Some bytes) is (inr enclosed) = inr (longer bytes is (λ more shown. inr enclosed))

-- ---- a call says the same of both

from_longer : (bytes more : List ℕ) (a n : ℕ) → a < length bytes → n ≤ length (drop a bytes) → bytes_from (bytes ++ more) a n ≡ bytes_from bytes a n
from_longer bytes more a n within fits =
    let front : drop a (bytes ++ more) ≡ drop a bytes ++ more = drop-append-le a bytes more (omega arith) in
    rw (lt-ltb a (length (bytes ++ more)) (omega (arith, length-append bytes more)), lt-ltb a (length bytes) within, front, take-append-le n (drop a bytes) more fits) refl

-- the volume's bytes at the address are shown alike
shown_alike : (volumes later : List Volume) (piece : Piece) (a n : ℕ) (s : Seen volumes later piece) → bytes_from (s.bytes ++ s.more) a n ≡ bytes_from s.bytes a n
    → bytes_shown later piece.volume a n ≡ bytes_shown volumes piece.volume a n
unfolding bytes_shown
shown_alike volumes later piece a n s same = rw (s.shown_is, s.found, same) refl

none_alike : (volumes later : List Volume) (piece : Piece) (a n : ℕ) → volume_bytes volumes piece.volume ≡ None → volume_bytes later piece.volume ≡ None
    → bytes_shown later piece.volume a n ≡ bytes_shown volumes piece.volume a n
unfolding bytes_shown
none_alike volumes later piece a n p q = rw (p, q) refl

nothing_more : (bytes more : List ℕ) (a n : ℕ) → more ≡ [] → bytes_from (bytes ++ more) a n ≡ bytes_from bytes a n
nothing_more bytes more a n none = ap (λ (xs : List ℕ). bytes_from xs a n) (ap (λ (xs : List ℕ). bytes ++ xs) none ∙ append-nil bytes)

-- what an enclosed piece has at an address that its walk reaches
reached_block : (volumes later : List Volume) (piece : Piece) (a : ℕ) → is_above (bound_of (just_groups piece.groups)) a ≡ false
    → Follows volumes piece a → (s : Seen volumes later piece) → IsEnclosed volumes piece → (a < length s.bytes) × IsBlockAt piece a (drop a s.bytes)
reached_block volumes later piece a near follows s enclosed =
    let same : enclosed.bytes ≡ s.bytes = same_Some enclosed.bytes s.bytes (sym enclosed.found ∙ s.found) in
    let within : a < length s.bytes = subst (λ (xs : List ℕ). a < length xs) same (inside (length enclosed.bytes) piece.groups a enclosed.some enclosed.ended near) in
    let step = step_follows volumes piece a enclosed.hits follows enclosed.defined in
    (within, block_of_step volumes piece a s.bytes step.0 near s.found within step.1)

-- what is shown of a volume at an address inside it
shown_from : (volumes : List Volume) (name : List ℕ) (bytes : List ℕ) (a n : ℕ) → volume_bytes volumes name ≡ Some bytes → a < length bytes
    → bytes_shown volumes name a n ≡ Ok (Some (take n (drop a bytes)))
unfolding bytes_shown
shown_from volumes name bytes a n found within = rw (found, lt-ltb a (length bytes) within) refl

-- two calls for a header gave the same, or bytes with the same header
abbrev pub ShowSameHead : Result (Option (List ℕ)) ℕ → Result (Option (List ℕ)) ℕ → Type 0
ShowSameHead one other = (one ≡ other) ⊎ ((xs : List ℕ) × (ys : List ℕ) × (one ≡ Ok (Some xs)) × (other ≡ Ok (Some ys)) × (read_header xs ≡ read_header ys))

-- a header that has come is read of more bytes too
same_head : (volumes later : List Volume) (piece : Piece) (a : ℕ) → (s : Seen volumes later piece) → a < length s.bytes → IsBlockAt piece a (drop a s.bytes)
    → ShowSameHead (bytes_shown later piece.volume a 24) (bytes_shown volumes piece.volume a 24)
same_head volumes later piece a s within b =
    let left = drop a s.bytes in
    let longer = drop a (s.bytes ++ s.more) in
    let front : longer ≡ left ++ s.more = drop-append-le a s.bytes s.more (omega arith) in
    let read : read_header longer ≡ Ok b.head = ap read_header front ∙ read_header_more left s.more b.head b.read in
    inr (
      take 24 longer,
      take 24 left,
      shown_from later piece.volume (s.bytes ++ s.more) a 24 s.shown_is (omega (arith, within, length-append s.bytes s.more)),
      shown_from volumes piece.volume s.bytes a 24 s.found within,
      read_header_alone longer ∙ read ∙ sym (read_header_alone left ∙ b.read),
    )

-- the first call of a step
pub head_alike : (volumes earlier later : List Volume) (piece : Piece) (a : ℕ) → is_above (bound_of (just_groups piece.groups)) a ≡ false
    → Extends later earlier → StandsFor earlier later piece volumes → Follows volumes piece a
    → ShowSameHead (bytes_shown later piece.volume a 24) (bytes_shown volumes piece.volume a 24)
head_alike volumes earlier later piece a near grows stands follows =
    elim (seen volumes earlier later piece grows stands) [
      | inl p ↦ inl (none_alike volumes later piece a 24 p.0 p.1)
      | inr s ↦ elim s.as_is [
        | inl none ↦ inl (shown_alike volumes later piece a 24 s (nothing_more s.bytes s.more a 24 none))
        | inr enclosed ↦ let b = reached_block volumes later piece a near follows s enclosed in same_head volumes later piece a s b.0 b.1
      ]
    ]

-- the second call of a step
pub block_alike : (volumes earlier later : List Volume) (piece : Piece) (a : ℕ) (h : Header) → is_above (bound_of (just_groups piece.groups)) a ≡ false
    → is_covered (just_groups piece.groups) a ≡ true → Extends later earlier → StandsFor earlier later piece volumes → Follows volumes piece a → HasHead volumes piece a h
    → bytes_shown later piece.volume a h.size ≡ bytes_shown volumes piece.volume a h.size
block_alike volumes earlier later piece a h near covered grows stands follows has =
    elim (seen volumes earlier later piece grows stands) [
      | inl p ↦ none_alike volumes later piece a h.size p.0 p.1
      | inr s ↦ shown_alike volumes later piece a h.size s (elim s.as_is [
        | inl none ↦ nothing_more s.bytes s.more a h.size none
        | inr enclosed ↦
            let b = reached_block volumes later piece a near follows s enclosed in
            let bytes : has.bytes ≡ s.bytes = same_Some has.bytes s.bytes (sym has.found ∙ s.found) in
            let heads : b.1.head ≡ h = ok_is b.1.head h (sym b.1.read ∙ ap (λ (xs : List ℕ). read_header (drop a xs)) (sym bytes) ∙ has.read) in
            let size = ap (λ (g : Header). g.size) heads in
            from_longer s.bytes s.more a h.size b.0 (omega (arith, b.1.whole covered, size))
      ])
    ]

-- ---- what the calls of a step say of it

pub head_read : (volumes : List Volume) (piece : Piece) (a : ℕ) (got : List ℕ) (h : Header) → bytes_shown volumes piece.volume a 24 ≡ Ok (Some got) → read_header got ≡ Ok h → HasHead volumes piece a h
head_read volumes piece a got h shown read =
    let p = shown_block volumes piece.volume a 24 got shown in
    record { bytes = p.0; found = p.1; within = p.2; read = sym (read_header_alone (drop a p.0)) ∙ ap read_header p.3 ∙ read }

pub head_refused : (volumes : List Volume) (piece : Piece) (a : ℕ) (got : List ℕ) (number : ℕ) → is_above (bound_of (just_groups piece.groups)) a ≡ false
    → bytes_shown volumes piece.volume a 24 ≡ Ok (Some got) → read_header got ≡ Err number
    → step_on volumes piece a ≡ Err (record { number = number; volume = piece.volume; address = a })
head_refused volumes piece a got number near shown read =
    let p = shown_block volumes piece.volume a 24 got shown in
    step_of_bad_head volumes piece a p.0 number near p.1 p.2 (sym (read_header_alone (drop a p.0)) ∙ ap read_header p.3 ∙ read)

pub head_ends : (volumes : List Volume) (piece : Piece) (a : ℕ) → bytes_shown volumes piece.volume a 24 ≡ Ok None → step_on volumes piece a ≡ Ok None
head_ends volumes piece a shown =
    let p = shown_end volumes piece.volume a 24 shown in
    let none : drop a p.0 ≡ [] = nil_from_length (drop a p.0) (omega (arith, length-drop a p.0, p.2)) in
    step_at_end volumes piece a p.0 p.1 (ap (λ (xs : List ℕ). is_empty xs || is_above (bound_of (just_groups piece.groups)) a) none)

pub step_unknown : (volumes : List Volume) (piece : Piece) (a n number : ℕ) → bytes_shown volumes piece.volume a n ≡ Err number → step_on volumes piece a ≡ Err (unknown piece.volume)
step_unknown volumes piece a n number shown = step_of_unknown volumes piece a (not_shown volumes piece.volume a n number shown)

-- what a second call reads
got_is : (volumes : List Volume) (piece : Piece) (a : ℕ) (h : Header) (got : List ℕ) → (has : HasHead volumes piece a h) → bytes_shown volumes piece.volume a h.size ≡ Ok (Some got)
    → take h.size (drop a has.bytes) ≡ got
got_is volumes piece a h got has shown =
    let p = shown_block volumes piece.volume a h.size got shown in
    let bytes : has.bytes ≡ p.0 = same_Some has.bytes p.0 (sym has.found ∙ p.1) in
    ap (λ (xs : List ℕ). take h.size (drop a xs)) bytes ∙ p.3

pub block_never_ends : (volumes : List Volume) (piece : Piece) (a : ℕ) (h : Header) → HasHead volumes piece a h → bytes_shown volumes piece.volume a h.size ≡ Ok None → ⊥
block_never_ends volumes piece a h has shown =
    let p = shown_end volumes piece.volume a h.size shown in
    let bytes : has.bytes ≡ p.0 = same_Some has.bytes p.0 (sym has.found ∙ p.1) in
    absurd (omega (arith, has.within, p.2, ap length bytes))

pub block_read : (volumes : List Volume) (piece : Piece) (a : ℕ) (h : Header) (got block : List ℕ) → is_above (bound_of (just_groups piece.groups)) a ≡ false
    → HasHead volumes piece a h → bytes_shown volumes piece.volume a h.size ≡ Ok (Some got) → read_block got ≡ Ok block
    → step_on volumes piece a ≡ Ok (Some (hits_in piece.groups (record { address = a; bytes = block }), a + h.size))
block_read volumes piece a h got block near has shown read =
    let left : List ℕ = drop a has.bytes in
    let is : cond {A = Result (List ℕ) ℕ} (ltb (length left) h.size) (Err 12) (Ok (take h.size left)) ≡ Ok block =
    sym (block_alone left h has.read) ∙ ap read_block (got_is volumes piece a h got has shown) ∙ read in
    elim (chosen (ltb (length left) h.size) (Err 12) (Ok (take h.size left)) (Ok block) is) [
      | inl p ↦ absurd cc
      | inr p ↦
          let whole : (is_covered (just_groups piece.groups) a && ltb (length left) h.size) ≡ false = rw (p.0) (and-false _) in
          step_of_head volumes piece a h near has ∙ rw whole refl ∙ ap (λ (xs : List ℕ). Ok (Some (hits_in piece.groups (record { address = a; bytes = xs }), a + h.size))) (ok_is (take h.size left) block p.1)
    ]
  where
    and-false : (b : Bool) → (b && false) ≡ false
    and-false true = refl
    and-false false = refl

pub block_refused : (volumes : List Volume) (piece : Piece) (a : ℕ) (h : Header) (got : List ℕ) (number : ℕ) → is_above (bound_of (just_groups piece.groups)) a ≡ false
    → is_covered (just_groups piece.groups) a ≡ true
    → HasHead volumes piece a h → bytes_shown volumes piece.volume a h.size ≡ Ok (Some got) → read_block got ≡ Err number
    → step_on volumes piece a ≡ Err (record { number = number; volume = piece.volume; address = a })
block_refused volumes piece a h got number near covered has shown read =
    let left : List ℕ = drop a has.bytes in
    let is : cond {A = Result (List ℕ) ℕ} (ltb (length left) h.size) (Err 12) (Ok (take h.size left)) ≡ Err number =
    sym (block_alone left h has.read) ∙ ap read_block (got_is volumes piece a h got has shown) ∙ read in
    elim (chosen (ltb (length left) h.size) (Err 12) (Ok (take h.size left)) (Err number) is) [
      | inl p ↦
          let short : (is_covered (just_groups piece.groups) a && ltb (length left) h.size) ≡ true = rw (covered, p.0) refl in
          step_of_head volumes piece a h near has ∙ rw short refl ∙ ap (λ (n : ℕ). Err (record { number = n; volume = piece.volume; address = a })) (err_is 12 number p.1)
      | inr p ↦ absurd cc
    ]

-- a block that is not covered
pub step_uncovered : (volumes : List Volume) (piece : Piece) (a : ℕ) (h : Header) → is_above (bound_of (just_groups piece.groups)) a ≡ false
    → is_covered (just_groups piece.groups) a ≡ false → HasHead volumes piece a h → step_on volumes piece a ≡ Ok (Some ([], a + h.size))
step_uncovered volumes piece a h near uncovered has =
    let left : List ℕ = drop a has.bytes in
    let fine : (is_covered (just_groups piece.groups) a && ltb (length left) h.size) ≡ false = rw uncovered refl in
    step_of_head volumes piece a h near has ∙ rw fine refl
    ∙ ap (λ (hs : List Hit). Ok (Some (hs, a + h.size))) (uncovered_has_no_hits piece.groups (laid_block a left h) uncovered)
