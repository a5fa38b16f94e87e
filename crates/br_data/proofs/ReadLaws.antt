-- What the calls of a drive say of a block that is read again.
use Rattle.std.proofs.Common.{◌≡◌, ℕ, List, ◌++◌, length, drop, take, Option, Some, None, Result, Ok, Err, sym, ap, ◌∙◌, arith}
use Rattle.std.proofs.lemmas.Option.{same_Some}
use Rattle.std.proofs.lemmas.List.{length-drop, take_at, take-append-drop, length-take-le, take_all}
use Rattle.std.specs.Prelude.{OnOk, OnErr}
use Rattle.br_model.specs.Block.{Header, read_header, read_block}
use Rattle.br_model.specs.Volume.{Volume}
use Rattle.br_model.proofs.AnswerLaws.{err_is, err_is_not_ok, ok_is}
use Rattle.br_model.proofs.SpanLaws.{read_block_front, read_header_alone, read_header_fewer, read_header_more}
use Rattle.br_model.proofs.VolumeLaws.{header_has_16}
use Rattle.br_volume.specs.Drive.{AnswersOver, OnlyGrows}
use Rattle.br_volume.specs.declared.drive.Got.TheVariants.{Block, End}
use Rattle.br_volume.specs.declared.fault.DriveFault.TheVariants.{UnknownVolume}
use Rattle.br_volume.proofs.DriveLaws.{not_shown, shown_block, shown_end}
use Rattle.br_volume.proofs.ExtendLaws.{extends_more}
use Rattle.br_data.specs.StandingHits.{ShowsAll, ShowsBlock}
use Rattle.br_data.specs.Rereading.{OfBlock, HasFirst, HasLength, IsBlock, IsGone, ShowsFirst}
use Rattle.br_data.specs.declared.reread_fault.AgainFault.{AgainFault}
use Rattle.br_data.proofs.StandLaws.{block_stays, one_block, read_has_header, whole_is_read}

-- a drive that has grown shows what it showed
pub shows_more : (earlier later : Option (List Volume)) (volumes : List Volume) → OnlyGrows earlier later → ShowsAll earlier volumes → ShowsAll later volumes
shows_more None later volumes grown shows = absurd shows
shows_more (Some earlier) None volumes grown shows = absurd grown
shows_more (Some earlier) (Some later) volumes grown shows = extends_more volumes earlier later grown shows

-- what holds of all blocks of the later volumes holds of those of the earlier ones
pub of_earlier : (earlier later : Option (List Volume)) (name : List ℕ) (a : ℕ) (P : List ℕ → Type 0) → OnlyGrows earlier later → OfBlock later name a P → OfBlock earlier name a P
of_earlier earlier later name a P grown all volumes block shows is = all volumes block (shows_more earlier later volumes grown shows) is

-- at an end there is no block
pub none_at_end : (shown : Option (List Volume)) (name : List ℕ) (a s : ℕ) (buffer : List ℕ) → AnswersOver shown name (a, s) buffer (Ok End) → OfBlock shown name a (λ block. ⊥)
none_at_end None name a s buffer answers volumes block shows is = absurd shows
none_at_end (Some shown) name a s buffer answers volumes block shows is =
    let e = shown_end shown name a s answers in
    let there = block_stays volumes shown name a block shows is in
    let same : there.bytes ≡ e.0 = same_Some _ _ (sym there.found ∙ e.1) in
    let h = read_has_header (drop a there.bytes) block there.whole in
    let long = (header_has_16 (drop a there.bytes) h.0 h.1).0 in
    absurd (omega (arith, e.2, ap length same, long, length-drop a there.bytes))

some_is_not_none : {A : Type 0} {x : A} → Some x ≡ None → ⊥
some_is_not_none e = absurd cc

-- if there is no volume, there is no block
pub none_if_unknown : (shown : Option (List Volume)) (name : List ℕ) (a s : ℕ) (buffer : List ℕ) → AnswersOver shown name (a, s) buffer (Err UnknownVolume) → OfBlock shown name a (λ block. ⊥)
none_if_unknown None name a s buffer answers volumes block shows is = absurd shows
none_if_unknown (Some shown) name a s buffer answers volumes block shows is =
    let there = block_stays volumes shown name a block shows is in
    absurd (some_is_not_none (sym there.found ∙ not_shown shown name a s 14 answers))

-- a block is the front of the bytes in which it is read
front_of : (xs block : List ℕ) → read_block xs ≡ Ok block → (more : List ℕ) × (xs ≡ block ++ more)
front_of xs block e =
    let h = read_has_header xs block e in
    (drop h.0.size xs, sym (take-append-drop h.0.size xs) ∙ ap (λ (front : List ℕ). front ++ drop h.0.size xs) h.3)

-- a read gives the first bytes of the block
pub first_read : (shown : Option (List Volume)) (name : List ℕ) (a s n : ℕ) (buffer : List ℕ) → AnswersOver shown name (a, s) buffer (Ok (Block n)) → HasFirst shown name a s buffer
first_read None name a s n buffer answers volumes block shows is = absurd shows
first_read (Some shown) name a s n buffer answers volumes block shows is =
    let e = shown_block shown name a s buffer answers in
    let there = block_stays volumes shown name a block shows is in
    let same : there.bytes ≡ e.0 = same_Some _ _ (sym there.found ∙ e.1) in
    let front = front_of (drop a there.bytes) block there.whole in
    (front.0, sym e.3 ∙ ap (λ (bs : List ℕ). take s (drop a bs)) (sym same) ∙ ap (take s) front.1)

-- a block has a header that says its length
header_of_block : (xs block : List ℕ) → read_block xs ≡ Ok block → (h : Header) × (read_header block ≡ Ok h) × (length block ≡ h.size)
header_of_block xs block e =
    let h = read_has_header xs block e in
    let sized : length (take h.0.size xs) ≡ h.0.size = length-take-le h.0.size xs h.2 in
    let read = read_header_fewer (take h.0.size xs) (drop h.0.size xs) h.0 (ap read_header (take-append-drop h.0.size xs) ∙ h.1) (omega (arith, sized)) in
    (h.0, ap read_header (sym h.3) ∙ read, ap length (sym h.3) ∙ sized)

-- its first 24 bytes, or those of it and of what follows it, have this header
header_of_first : (buffer block more : List ℕ) (h : Header) → read_header block ≡ Ok h → buffer ≡ take 24 (block ++ more) → read_header buffer ≡ Ok h
header_of_first buffer block more h read is = ap read_header is ∙ read_header_alone (block ++ more) ∙ read_header_more block more h read

-- a header that is read says how long the block is
pub length_read : (shown : Option (List Volume)) (name : List ℕ) (a : ℕ) (buffer : List ℕ) (h : Header) → HasFirst shown name a 24 buffer → read_header buffer ≡ Ok h
    → HasLength shown name a h.size
length_read shown name a buffer h first read volumes block shows is =
    let p = header_of_block (drop a is.bytes) block is.whole in
    let f = first volumes block shows is in
    let same : h ≡ p.0 = ok_is h p.0 (sym read ∙ header_of_first buffer block f.0 p.0 p.1 f.1) in
    p.2 ∙ ap (λ (x : Header). x.size) (sym same)

-- a header that is refused is that of no block
pub none_if_refused : (shown : Option (List Volume)) (name : List ℕ) (a n : ℕ) (buffer : List ℕ) → HasFirst shown name a 24 buffer → read_header buffer ≡ Err n
    → OfBlock shown name a (λ block. ⊥)
none_if_refused shown name a n buffer first read volumes block shows is =
    let p = header_of_block (drop a is.bytes) block is.whole in
    let f = first volumes block shows is in
    absurd (err_is_not_ok n p.0 (sym read ∙ header_of_first buffer block f.0 p.0 p.1 f.1))

-- a block is read as itself
pub block_is_block : (xs block : List ℕ) → read_block xs ≡ Ok block → read_block block ≡ Ok block
block_is_block xs block e =
    let p = header_of_block xs block e in
    whole_is_read block p.0 p.1 (omega (arith, p.2)) ∙ ap (λ (bs : List ℕ). Ok bs) (ap (λ (n : ℕ). take n block) (sym p.2) ∙ take_all (length block) block (omega arith))

-- a fault that is passed on
pub gone_on : {A B : Type 0} (shown : Option (List Volume)) (name : List ℕ) (a : ℕ) (e : AgainFault) → IsGone {A = A} shown name a (Err e) → IsGone {A = B} shown name a (Err e)
gone_on shown name a e gone is = gone (ap (λ (f : AgainFault). Err f) (err_is _ _ is))

pub gone_earlier : {A B : Type 0} (earlier later : Option (List Volume)) (name : List ℕ) (a : ℕ) (e : AgainFault) → OnlyGrows earlier later
    → IsGone {A = A} later name a (Err e) → IsGone {A = B} earlier name a (Err e)
gone_earlier earlier later name a e grown gone is = of_earlier earlier later name a (λ block. ⊥) grown (gone_on later name a e gone is)

pub on_ok_then : {A E : Type 0} (r : Result A E) (P Q : Type 0) → OnOk r P → (P → Q) → OnOk r Q
on_ok_then (Ok x) P Q p f = f p
on_ok_then (Err e) P Q p f = tt

pub on_err_is : {A E : Type 0} (r : Result A E) (e : E) (P : Type 0) → r ≡ Err e → OnErr r P → P
on_err_is (Ok x) e P is p = absurd cc
on_err_is (Err d) e P is p = p

-- as many bytes as the block has are the block
pub whole_first : (earlier later : Option (List Volume)) (name : List ℕ) (a s : ℕ) (buffer : List ℕ) → OnlyGrows earlier later
    → HasLength earlier name a s → HasFirst later name a s buffer → IsBlock earlier name a buffer
whole_first earlier later name a s buffer grown long first volumes block shows is =
    let n : length block ≡ s = long volumes block shows is in
    let f = first volumes block (shows_more earlier later volumes grown shows) is in
    f.1 ∙ take_at block f.0 s n

-- what a read gives is the first of the volume's bytes there
pub shows_first : (shown : Option (List Volume)) (name : List ℕ) (a s n : ℕ) (buffer : List ℕ) → AnswersOver shown name (a, s) buffer (Ok (Block n)) → ShowsFirst shown name a s buffer
shows_first None name a s n buffer answers = tt
shows_first (Some shown) name a s n buffer answers =
    let e = shown_block shown name a s buffer answers in (e.0, e.1, sym e.3)

-- if they are a whole block, it is the one at the address
pub shows_whole : (shown : Option (List Volume)) (name : List ℕ) (a s : ℕ) (buffer : List ℕ) → ShowsFirst shown name a s buffer → read_block buffer ≡ Ok buffer
    → ShowsBlock shown name a buffer
shows_whole None name a s buffer first whole = tt
shows_whole (Some shown) name a s buffer first whole =
    let left = drop a first.0 in
    record {
      bytes = first.0;
      found = first.1;
      whole = ap read_block (sym (take-append-drop s left) ∙ ap (λ (front : List ℕ). front ++ drop s left) (sym first.2)) ∙ read_block_front buffer (drop s left) buffer whole;
    }

-- the block that is shown is the block of all volumes that were shown before
pub shown_is_block : (earlier later : Option (List Volume)) (name : List ℕ) (a : ℕ) (buffer : List ℕ) → OnlyGrows earlier later → ShowsBlock later name a buffer → IsBlock earlier name a buffer
shown_is_block None later name a buffer grown is volumes block shows there = absurd shows
shown_is_block (Some earlier) None name a buffer grown is volumes block shows there = absurd grown
shown_is_block (Some earlier) (Some later) name a buffer grown is volumes block shows there =
    one_block later name a buffer block is (block_stays volumes later name a block (extends_more volumes earlier later grown shows) there)

-- a block that is as long as the bytes in which it is, is these bytes
pub long_is_whole : (xs block : List ℕ) → read_block xs ≡ Ok block → length block ≡ length xs → read_block xs ≡ Ok xs
long_is_whole xs block e long =
    let h = read_has_header xs block e in
    let sized : h.0.size ≡ length xs = sym (length-take-le h.0.size xs h.2) ∙ ap length h.3 ∙ long in
    e ∙ ap (λ (bs : List ℕ). Ok bs) (sym h.3 ∙ take_all h.0.size xs (omega (arith, sized)))

-- there is no block if the bytes that were read are not a whole one
pub gone_if_torn : (earlier later : Option (List Volume)) (name : List ℕ) (a s : ℕ) (buffer : List ℕ) → OnlyGrows earlier later
    → HasLength earlier name a s → HasFirst later name a s buffer → (read_block buffer ≡ Ok buffer → ⊥) → OfBlock earlier name a (λ block. ⊥)
gone_if_torn earlier later name a s buffer grown long first torn volumes block shows is =
    let same : buffer ≡ block = whole_first earlier later name a s buffer grown long first volumes block shows is in
    torn (ap read_block same ∙ block_is_block (drop a is.bytes) block is.whole ∙ ap (λ (bs : List ℕ). Ok bs) (sym same))
