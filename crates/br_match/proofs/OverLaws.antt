-- From what a drive returns over the volumes that it shows to what a step returns over all that it
-- may be taken to show.
use Rattle.std.proofs.Common.{◌≡◌, ℕ, ◌+◌, true, false, List, ◌++◌, Option, Some, None, Result, Ok, Err, refl, sym, ap, subst, ◌∙◌, ◌⊎◌, inl, inr}
use Rattle.std.proofs.lemmas.Option.{same_Some}
use Rattle.br_model.specs.Answer.{Answers, IsRefusal, refused_as}
use Rattle.br_model.specs.Block.{Header, read_header, read_block}
use Rattle.br_model.specs.Volume.{Volume, Extends, is_above}
use Rattle.br_model.specs.Meaning.{Piece, PieceFault, Hit, bound_of, is_covered, just_groups, hits_in}
use Rattle.br_model.proofs.AnswerLaws.{refused_as_ok, err_is, ok_is}
use Rattle.br_volume.specs.Drive.{OnlyGrows, bytes_got, bytes_shown}
use Rattle.br_volume.specs.declared.drive.Got.{Got}
use Rattle.br_volume.specs.declared.drive.Got.TheVariants.{Block, End}
use Rattle.br_match.specs.declared.fault.PieceFault as code
use Rattle.br_match.specs.Fault.{cause}
use Rattle.br_match.specs.Matching.{IsEnclosed}
use Rattle.br_match.specs.Walk.{unknown, step_on, Over, AfterWalk, AfterHead, Follows, HasHead, IsRefusedFor, ReadsAt, ReadsOver, IsStep}
use Rattle.br_volume.proofs.ExtendLaws.{extends_more}
use Rattle.br_match.proofs.SeenLaws.{ShowSameHead, head_alike, block_alike, head_read, head_refused, head_ends, step_unknown, block_never_ends, block_read, block_refused}

-- what holds over all such volumes, if a weaker fact is asked
pub over_weaker : (earlier later : Option (List Volume)) (piece : Piece) (P Q : List Volume → Type 0) → ((volumes : List Volume) → P volumes → Q volumes)
    → Over earlier later piece P → Over earlier later piece Q
over_weaker None later piece P Q weaker over = tt
over_weaker (Some earlier) None piece P Q weaker over = tt
over_weaker (Some earlier) (Some later) piece P Q weaker over = λ volumes stands. weaker volumes (over volumes stands)

-- over such volumes a call for a header reads bytes with the same header
abbrev pub ReadsHead : List ℕ → ℕ → List ℕ → Result Got code.PieceFault → List Volume → Type 0
ReadsHead name a buffer result volumes = (bytes : List ℕ) × (read_header bytes ≡ read_header buffer) × ReadsAt name a 24 bytes result volumes

-- what a call gave is what another one gives that shows the same header
abbrev HeadGiven : List ℕ → Result Got code.PieceFault → Result (Option (List ℕ)) PieceFault → Type 0
HeadGiven buffer result shown = (bytes : List ℕ) × (read_header bytes ≡ read_header buffer) × Answers (bytes_got bytes) cause result shown

head_given : (xs ys buffer : List ℕ) (result : Result Got code.PieceFault) → read_header xs ≡ read_header ys → Answers (bytes_got buffer) cause result (Ok (Some xs))
    → HeadGiven buffer result (Ok (Some ys))
head_given xs ys buffer (Ok (Block n)) same is = let e : xs ≡ buffer = same_Some xs buffer (ok_is (Some xs) (Some buffer) is) in (ys, sym same ∙ ap read_header e, refl)
head_given xs ys buffer (Ok End) same is = absurd cc
head_given xs ys buffer (Err e) same is = (buffer, refl, not_refused (cause e) is)
  where
    not_refused : (o : Option PieceFault) → IsRefusal o (Ok (Some xs)) → IsRefusal o (Ok (Some ys))
    not_refused None is = tt
    not_refused (Some r) is = absurd cc

-- the first call of a step, over all such volumes
pub over_head : (earlier later : Option (List Volume)) (piece : Piece) (a : ℕ) (buffer : List ℕ) (result : Result Got code.PieceFault)
    → is_above (bound_of (just_groups piece.groups)) a ≡ false → OnlyGrows earlier later
    → ReadsOver later piece.volume a 24 buffer result → AfterWalk earlier later piece a (ReadsHead piece.volume a buffer result)
over_head None later piece a buffer result near grows reads = tt
over_head (Some earlier) None piece a buffer result near grows reads = tt
over_head (Some earlier) (Some later) piece a buffer result near grows reads = λ volumes stands follows.
    carried (bytes_shown later piece.volume a 24) (bytes_shown volumes piece.volume a 24) (head_alike volumes earlier later piece a near grows stands follows) reads
  where
    shown_as : Result (Option (List ℕ)) ℕ → Result (Option (List ℕ)) PieceFault
    shown_as r = refused_as (λ _. unknown piece.volume) r

    reads_of : List ℕ → Result (Option (List ℕ)) ℕ → Type 0
    reads_of bytes r = Answers (bytes_got bytes) cause result (shown_as r)

    carried : (r s : Result (Option (List ℕ)) ℕ) → ShowSameHead r s → reads_of buffer r → (bytes : List ℕ) × (read_header bytes ≡ read_header buffer) × reads_of bytes s
    carried r s (inl e) reads = (buffer, refl, subst (λ (x : Result (Option (List ℕ)) ℕ). reads_of buffer x) e reads)
    carried r s (inr p) reads =
        let given = head_given p.0 p.1 buffer result p.4 (subst (λ (x : Result (Option (List ℕ)) ℕ). reads_of buffer x) p.2 reads) in
        (given.0, given.1, subst (λ (x : Result (Option (List ℕ)) ℕ). reads_of given.0 x) (sym p.3) given.2)

-- the second call of a step, over all such volumes
pub over_block : (earlier later : Option (List Volume)) (piece : Piece) (a : ℕ) (h : Header) (buffer : List ℕ) (result : Result Got code.PieceFault)
    → is_above (bound_of (just_groups piece.groups)) a ≡ false → is_covered (just_groups piece.groups) a ≡ true → OnlyGrows earlier later
    → ReadsOver later piece.volume a h.size buffer result → AfterHead earlier later piece a h (ReadsAt piece.volume a h.size buffer result)
over_block None later piece a h buffer result near covered grows reads = tt
over_block (Some earlier) None piece a h buffer result near covered grows reads = tt
over_block (Some earlier) (Some later) piece a h buffer result near covered grows reads = λ volumes stands follows has.
    subst (λ (r : Result (Option (List ℕ)) ℕ). reads_of r) (block_alike volumes earlier later piece a h near covered grows stands follows has) reads
  where
    reads_of : Result (Option (List ℕ)) ℕ → Type 0
    reads_of r = Answers (bytes_got buffer) cause result (refused_as (λ _. unknown piece.volume) r)

-- what holds over all volumes holds over such
pub over_any : (earlier later : Option (List Volume)) (piece : Piece) (P : List Volume → Type 0) → ((volumes : List Volume) → P volumes) → Over earlier later piece P
over_any None later piece P all = tt
over_any (Some earlier) None piece P all = tt
over_any (Some earlier) (Some later) piece P all = λ volumes stands. all volumes

-- two facts that hold over such volumes
pub over_both : (earlier later : Option (List Volume)) (piece : Piece) (P Q : List Volume → Type 0) → Over earlier later piece P → Over earlier later piece Q
    → Over earlier later piece (λ volumes. P volumes × Q volumes)
over_both None later piece P Q p q = tt
over_both (Some earlier) None piece P Q p q = tt
over_both (Some earlier) (Some later) piece P Q p q = λ volumes stands. (p volumes stands, q volumes stands)

-- one call after another
pub over_join : (a b c : Option (List Volume)) (piece : Piece) (P Q R : List Volume → Type 0) → OnlyGrows a b → OnlyGrows b c
    → Over a b piece P → Over b c piece Q → ((volumes : List Volume) → P volumes → Q volumes → R volumes) → Over a c piece R
over_join None b c piece P Q R p q first second join = tt
over_join (Some a) b None piece P Q R p q first second join = tt
over_join (Some a) None (Some c) piece P Q R p q first second join = absurd p
over_join (Some a) (Some b) (Some c) piece P Q R p q first second join = λ volumes stands.
    join volumes (first volumes (stands.0, sooner volumes stands.1)) (second volumes (extends_more volumes a b p stands.0, stands.1))
  where
    sooner : (volumes : List Volume) → (Extends volumes c ⊎ IsEnclosed volumes piece) → Extends volumes b ⊎ IsEnclosed volumes piece
    sooner volumes (inl back) = inl (extends_more b c volumes back q)
    sooner volumes (inr enclosed) = inr enclosed

-- ---- what a call says of the step

-- a refusal that may be out of memory instead of the expected one
pub refused_for : {Y : Type 0} (expected told : Option PieceFault) (x : Result Y PieceFault) → IsRefusedFor expected told → IsRefusal expected x → IsRefusal told x
refused_for expected None x e is = tt
refused_for expected (Some r) x e is = subst (λ (o : Option PieceFault). IsRefusal o x) e is

-- a refusal that is one of another answer too
pub refusal_is : {Y Z : Type 0} (o : Option PieceFault) (x : Result Y PieceFault) (y : Result Z PieceFault) → ((r : PieceFault) → x ≡ Err r → y ≡ Err r) → IsRefusal o x → IsRefusal o y
refusal_is None x y to is = tt
refusal_is (Some r) x y to is = to r is

-- a call that is refused
pub read_is_refused : (volumes : List Volume) (piece : Piece) (a n : ℕ) (buffer : List ℕ) (e : code.PieceFault) → ReadsAt piece.volume a n buffer (Err e) volumes
    → IsRefusal (cause e) (step_on volumes piece a)
read_is_refused volumes piece a n buffer e reads =
    refusal_is (cause e) (refused_as (λ _. unknown piece.volume) (bytes_shown volumes piece.volume a n)) (step_on volumes piece a) (λ r is. told r (bytes_shown volumes piece.volume a n) refl is) reads
  where
    told : (r : PieceFault) (x : Result (Option (List ℕ)) ℕ) → bytes_shown volumes piece.volume a n ≡ x → refused_as (λ _. unknown piece.volume) x ≡ Err r → step_on volumes piece a ≡ Err r
    told r (Ok got) shown is = absurd cc
    told r (Err number) shown is = step_unknown volumes piece a n number shown ∙ ap (λ (e : PieceFault). Err e) (err_is (unknown piece.volume) r is)

-- a call that gives bytes
read_gives : (volumes : List Volume) (piece : Piece) (a n : ℕ) (buffer : List ℕ) (got : Got) → ReadsAt piece.volume a n buffer (Ok got) volumes
    → bytes_shown volumes piece.volume a n ≡ Ok (bytes_got buffer got)
read_gives volumes piece a n buffer got reads = refused_as_ok (λ _. unknown piece.volume) (bytes_shown volumes piece.volume a n) (bytes_got buffer got) reads

-- the walk ends
pub ends_there : (volumes : List Volume) (piece : Piece) (a : ℕ) (buffer : List ℕ) → ReadsAt piece.volume a 24 buffer (Ok End) volumes → step_on volumes piece a ≡ Ok None
ends_there volumes piece a buffer reads = head_ends volumes piece a (read_gives volumes piece a 24 buffer End reads)

-- a header is read
pub head_there : (volumes : List Volume) (piece : Piece) (a n : ℕ) (buffer : List ℕ) (h : Header) → read_header buffer ≡ Ok h
    → ReadsAt piece.volume a 24 buffer (Ok (Block n)) volumes → HasHead volumes piece a h
head_there volumes piece a n buffer h read reads = head_read volumes piece a buffer h (read_gives volumes piece a 24 buffer (Block n) reads) read

-- a header is refused
pub bad_head_there : (volumes : List Volume) (piece : Piece) (a n number : ℕ) (buffer : List ℕ) → is_above (bound_of (just_groups piece.groups)) a ≡ false → read_header buffer ≡ Err number
    → ReadsAt piece.volume a 24 buffer (Ok (Block n)) volumes → step_on volumes piece a ≡ Err (record { number = number; volume = piece.volume; address = a })
bad_head_there volumes piece a n number buffer near read reads = head_refused volumes piece a buffer number near (read_gives volumes piece a 24 buffer (Block n) reads) read

-- a second call gives a block's bytes
block_got : (volumes : List Volume) (piece : Piece) (a : ℕ) (h : Header) (buffer : List ℕ) (got : Got) → HasHead volumes piece a h
    → ReadsAt piece.volume a h.size buffer (Ok got) volumes → bytes_shown volumes piece.volume a h.size ≡ Ok (Some buffer)
block_got volumes piece a h buffer End has reads = absurd (block_never_ends volumes piece a h has (read_gives volumes piece a h.size buffer End reads))
block_got volumes piece a h buffer (Block n) has reads = read_gives volumes piece a h.size buffer (Block n) reads

-- the block is read, and its hits are appended
pub block_there : (volumes : List Volume) (piece : Piece) (a : ℕ) (h : Header) (buffer block : List ℕ) (got : Got) (before after : List Hit) → is_above (bound_of (just_groups piece.groups)) a ≡ false
    → read_block buffer ≡ Ok block → after ≡ before ++ hits_in piece.groups (record { address = a; bytes = block })
    → ReadsAt piece.volume a h.size buffer (Ok got) volumes → HasHead volumes piece a h → IsStep volumes piece a (a + h.size) before after
block_there volumes piece a h buffer block got before after near read pushed reads has = record {
  batch = hits_in piece.groups (record { address = a; bytes = block });
  step = block_read volumes piece a h buffer block near has (block_got volumes piece a h buffer got has reads) read;
  pushed = pushed;
}

-- the block is refused
pub bad_block_there : (volumes : List Volume) (piece : Piece) (a number : ℕ) (h : Header) (buffer : List ℕ) (got : Got) → is_above (bound_of (just_groups piece.groups)) a ≡ false
    → is_covered (just_groups piece.groups) a ≡ true → read_block buffer ≡ Err number
    → ReadsAt piece.volume a h.size buffer (Ok got) volumes → HasHead volumes piece a h → step_on volumes piece a ≡ Err (record { number = number; volume = piece.volume; address = a })
bad_block_there volumes piece a number h buffer got near covered read reads has =
    block_refused volumes piece a h buffer number near covered has (block_got volumes piece a h buffer got has reads) read

-- ---- a call as the code makes it

-- a call for bytes of a piece's volume, at an address that is not above the bound
pub record IsCall (earlier later : Option (List Volume)) (piece : Piece) (volume : List ℕ) (a n : ℕ) (buffer : List ℕ) (result : Result Got code.PieceFault) : Type 0 where
  pub near : is_above (bound_of (just_groups piece.groups)) a ≡ false
  pub volume_is : volume ≡ piece.volume
  pub grows : OnlyGrows earlier later
  pub reads : ReadsOver later volume a n buffer result

-- what follows from the answer of the first call
pub of_head : {earlier later : Option (List Volume)} {piece : Piece} {volume : List ℕ} {a : ℕ} {buffer : List ℕ} {result answer : Result Got code.PieceFault} (Q : List Volume → Type 0)
    → IsCall earlier later piece volume a 24 buffer result → result ≡ answer
    → ((volumes : List Volume) (bytes : List ℕ) → read_header bytes ≡ read_header buffer → ReadsAt piece.volume a 24 bytes answer volumes → Q volumes)
    → AfterWalk earlier later piece a Q
of_head {earlier} {later} {piece} {volume} {a} {buffer} {result} {answer} Q call is then =
    over_weaker earlier later piece (λ volumes. Follows volumes piece a → ReadsHead piece.volume a buffer answer volumes) (λ volumes. Follows volumes piece a → Q volumes)
    (λ volumes reads follows. let r = reads follows in then volumes r.0 r.1 r.2)
    (over_head earlier later piece a buffer answer call.near call.grows
    (subst (λ (v : List ℕ). ReadsOver later v a 24 buffer answer) call.volume_is (subst (λ (r : Result Got code.PieceFault). ReadsOver later volume a 24 buffer r) is call.reads)))

-- what follows from the answer of the second call
pub of_block : {earlier later : Option (List Volume)} {piece : Piece} {volume : List ℕ} {a : ℕ} {buffer : List ℕ} {result answer : Result Got code.PieceFault} (h : Header) (Q : List Volume → Type 0)
    → IsCall earlier later piece volume a h.size buffer result → is_covered (just_groups piece.groups) a ≡ true → result ≡ answer
    → ((volumes : List Volume) → ReadsAt piece.volume a h.size buffer answer volumes → HasHead volumes piece a h → Q volumes)
    → AfterHead earlier later piece a h Q
of_block {earlier} {later} {piece} {volume} {a} {buffer} {result} {answer} h Q call covered is then =
    over_weaker earlier later piece (λ volumes. Follows volumes piece a → HasHead volumes piece a h → ReadsAt piece.volume a h.size buffer answer volumes)
    (λ volumes. Follows volumes piece a → HasHead volumes piece a h → Q volumes)
    (λ volumes reads follows has. then volumes (reads follows has) has)
    (over_block earlier later piece a h buffer answer call.near covered call.grows
    (subst (λ (v : List ℕ). ReadsOver later v a h.size buffer answer) call.volume_is (subst (λ (r : Result Got code.PieceFault). ReadsOver later volume a h.size buffer r) is call.reads)))
