-- What a worker sends of its pieces, one after the other.
use Rattle.std.proofs.Common.{◌≡◌, ℕ, zero, suc, Bool, true, false, ◌<◌, ◌≤◌, ap, ◌∙◌, map, List, [], ◌∷◌, ◌++◌, length, slice_index_or, Option, Some, None, Ok, Err, refl, sym, subst, arith, inl, inr}
use Rattle.std.proofs.lemmas.List.Elements.{Contains-append_left, Contains-append_right}
use Rattle.std.specs.Prelude.{Contains}
use Rattle.std.specs.List.{AllByRecursion}
use Rattle.atomic_table.specs.Seated.{TableId}
use Rattle.br_claim.specs.Claims.{Seated}
use Rattle.br_model.specs.Volume.{Volume}
use Rattle.br_model.specs.Meaning.{Piece, Hit, hits_on}
use Rattle.br_volume.specs.Drive.{OnlyGrows}
use Rattle.br_match.specs.Matching.{IsEnclosed}
use Rattle.br_match.specs.Fault.{cause}
use Rattle.br_match.specs.Walk.{BlockGiven, ComesTo, Follows, IsWalked, Over, step_on}
use Rattle.br_match.specs.declared.hit.Batch.{Batch}
use Rattle.br_match.specs.declared.fault.PieceFault.{PieceFault}
use Rattle.br_match.proofs.FoundLaws.{comes_at_first, comes_further, walk_begins, walk_ends, walk_follows, walk_goes_on, walk_refused}
use Rattle.br_volume.proofs.ExtendLaws.{extends_more, grows_more}
use Rattle.br_match.specs.Come.{IsCome, AllComeTo}
use Rattle.br_pool.specs.Pool.{StandsTold}
use Rattle.br_pool.specs.Gathering.{hits_of_batches}
use Rattle.br_pool.specs.Sending.{AreIn, HasSent, IsSent, SaysSent, SendsOver}
use Rattle.br_pool.specs.declared.batch_queue.Crew.{Crew}
use Rattle.br_pool.specs.Workers.{Answer, EachHolds, HoldsAt, is_failure, number_at, numbers_of}
use Rattle.br_pool.proofs.GatheringLaws.{sent_now}
use Rattle.br_pool.proofs.AnswerLaws.{each_so, holds_at, told_so_far}
use Rattle.br_pool.proofs.ListLaws.{all_at, all_more}

-- ---- hits to which walks come

-- among more pieces
come_among : (volumes : List Volume) (pieces : List Piece) (p : Piece) (hit : Hit) → Contains pieces p → IsCome volumes (p ∷ []) hit → IsCome volumes pieces hit
come_among volumes pieces p hit inside is = record {
  piece = is.piece;
  address = is.address;
  next = is.next;
  batch = is.batch;
  among = subst (Contains pieces) (only is.among) inside;
  come = is.come;
  step = is.step;
  inside = is.inside;
}
  where
    only : Contains (p ∷ []) is.piece → p ≡ is.piece
    only (zero, low, e) = e
    only (suc k, low, e) = absurd (omega (arith, low))

pub all_come_among : (volumes : List Volume) (pieces : List Piece) (p : Piece) (hits : List Hit) → Contains pieces p → AllComeTo volumes (p ∷ []) hits → AllComeTo volumes pieces hits
all_come_among volumes pieces p [] inside all = tt
all_come_among volumes pieces p (h ∷ hits) inside all = (come_among volumes pieces p h inside all.0, all_come_among volumes pieces p hits inside all.1)

pub all_come_joined : (volumes : List Volume) (pieces : List Piece) (xs ys : List Hit) → AllComeTo volumes pieces xs → AllComeTo volumes pieces ys → AllComeTo volumes pieces (xs ++ ys)
all_come_joined volumes pieces [] ys p q = q
all_come_joined volumes pieces (x ∷ xs) ys p q = (p.0, all_come_joined volumes pieces xs ys p.1 q)

-- what holds of each element holds of all
pub all_from_each : {A : Type 0} (P : A → Type 0) (xs : List A) → ((x : A) → Contains xs x → P x) → AllByRecursion P xs
all_from_each P [] h = tt
all_from_each {A} P (x ∷ xs) h = (h x (0, omega arith, refl), all_from_each P xs (λ y inside. h y (suc inside.0, (let low = inside.1 in omega (arith, low)), inside.2)))

-- the hits of one block to which a walk comes
come_of_block : (volumes : List Volume) (piece : Piece) (a next : ℕ) (batch : List Hit) → ComesTo volumes piece a → step_on volumes piece a ≡ Ok (Some (batch, next)) → AllComeTo volumes (piece ∷ []) batch
come_of_block volumes piece a next batch come step = all_from_each (IsCome volumes (piece ∷ [])) batch (λ h inside. record {
  piece = piece;
  address = a;
  next = next;
  batch = batch;
  among = (0, omega arith, refl);
  come = come;
  step = step;
  inside = inside;
})

-- ---- a walk whose hits are sent

-- these hits were sent before the walk came to the address
abbrev pub WalksOn : Piece → ℕ → List Hit → List Volume → Type 0
WalksOn piece a hits volumes = IsWalked volumes piece a hits × ComesTo volumes piece a × AllComeTo volumes (piece ∷ []) hits

pub walks_first : (piece : Piece) (a : ℕ) → a ≡ 0 → (volumes : List Volume) → WalksOn piece a [] volumes
walks_first piece a e volumes = (walk_begins volumes piece a [] e refl, comes_at_first volumes piece a e, tt)

pub walks_on : (piece : Piece) (a next : ℕ) (hits : List Hit) (batch : Batch) (volumes : List Volume) → WalksOn piece a hits volumes
    → (Follows volumes piece a → BlockGiven piece a next (Ok (Some batch)) volumes) → WalksOn piece next (hits ++ batch.hits.items) volumes
walks_on piece a next hits batch volumes walks answer =
    let step = answer (walk_follows volumes piece a hits walks.0) in (
      walk_goes_on volumes piece a next hits (hits ++ batch.hits.items) walks.0 (record { batch = batch.hits.items; step = step; pushed = refl }),
      comes_further volumes piece a next batch.hits.items walks.1 step,
      all_come_joined volumes (piece ∷ []) hits batch.hits.items walks.2 (come_of_block volumes piece a next batch.hits.items walks.1 step),
    )

pub walk_stops : (piece : Piece) (a next : ℕ) (hits : List Hit) (e : PieceFault) (volumes : List Volume) → WalksOn piece a hits volumes
    → (Follows volumes piece a → BlockGiven piece a next (Err e) volumes) → AllComeTo volumes (piece ∷ []) hits × SaysSent volumes hits piece (Err e)
walk_stops piece a next hits e volumes walks answer = (walks.2, walk_refused volumes piece a hits (cause e) walks.0 (answer (walk_follows volumes piece a hits walks.0)))

pub walk_is_over : (piece : Piece) (a next : ℕ) (hits : List Hit) (volumes : List Volume) → WalksOn piece a hits volumes
    → (Follows volumes piece a → BlockGiven piece a next (Ok None) volumes) → AllComeTo volumes (piece ∷ []) hits × ((all : List Hit) × (hits_on volumes piece ≡ Ok all) × AreIn all hits)
walk_is_over piece a next hits volumes walks answer =
    (walks.2, (hits, walk_ends volumes piece a hits hits walks.0 (answer (walk_follows volumes piece a hits walks.0)) refl, (λ h inside. inside)))

-- ---- the volumes of a drive, while it reads

-- what holds over the volumes that a drive may be taken to show for one of the pieces
pub over_told : (pieces : List Piece) (volumes : List Volume) (x : ℕ) (piece : Piece) (P : List Volume → Type 0) (a b c : Option (List Volume)) → OnlyGrows a b → OnlyGrows b c
    → x < length pieces → piece ≡ slice_index_or pieces x piece → Over b c piece P → StandsTold pieces volumes a c → P volumes
over_told pieces volumes x piece P None b c p q low e over told = absurd told
over_told pieces volumes x piece P (Some a) b None p q low e over told = absurd told
over_told pieces volumes x piece P (Some a) None (Some c) p q low e over told = absurd p
over_told pieces volumes x piece P (Some a) (Some b) (Some c) p q low e over (more, inl same) = over volumes (extends_more volumes a b p more, inl same)
over_told pieces volumes x piece P (Some a) (Some b) (Some c) p q low e over (more, inr each) =
    over volumes (extends_more volumes a b p more, inr (subst (IsEnclosed volumes) (sym e) (all_at (IsEnclosed volumes) pieces x piece low each)))

-- ---- answers

-- over fewer volumes, and if more was sent
says_more : (volumes : List Volume) (sent more : List Hit) (p : Piece) (a : Answer) → AreIn sent more → SaysSent volumes sent p a → SaysSent volumes more p a
says_more volumes sent more p (Ok f) so says = (says.0, says.1, λ h inside. so h (says.2 h inside))
says_more volumes sent more p (Err w) so says = says

pub sent_weaker : (over fewer : List Volume → Type 0) (sent more : List Hit) → ((volumes : List Volume) → fewer volumes → over volumes) → AreIn sent more
    → (p : Piece) (a : Answer) → IsSent over sent p a → IsSent fewer more p a
sent_weaker over fewer sent more so inside p a is = record {
  hits = λ volumes few. says_more volumes sent more p a inside (is.hits volumes (so volumes few));
  sound = is.sound;
}

-- one more piece was read, and its hits were sent: v is what the pass knew before, and w after
module _ (pieces : List Piece) (x : ℕ) (piece : Piece) (answer : Answer) (a b c : Option (List Volume)) (p : OnlyGrows a b) (q : OnlyGrows b c) (low : x < length pieces) (e : piece ≡ slice_index_or pieces x piece) (v w : Crew)
    (sends : SendsOver b c piece v w answer) where
  -- it pushed these hits too
  now : hits_of_batches w.pushed ≡ hits_of_batches v.pushed ++ sends.0
  now = sent_now v w sends.0 sends.1

  pub parts_after : v.parts ≡ 1 → w.parts ≡ 1
  parts_after h = ap (λ (y : Crew). y.parts) sends.1.1 ∙ h

  -- walks come to the blocks of all
  pub come_after : ((volumes : List Volume) → StandsTold pieces volumes a b → AllComeTo volumes pieces (hits_of_batches v.pushed))
      → (volumes : List Volume) → StandsTold pieces volumes a c → AllComeTo volumes pieces (hits_of_batches w.pushed)
  come_after come volumes told =
      subst (AllComeTo volumes pieces) (sym now)
      (all_come_joined volumes pieces (hits_of_batches v.pushed) sends.0 (come volumes (told_so_far pieces volumes a b c p q told))
      (all_come_among volumes pieces piece sends.0 (x, low, sym e) (over_told pieces volumes x piece _ a b c p q low e sends.2 told).0))

  -- the answers so far
  pub each_after : (answers : List (ℕ × Answer)) → EachHolds (IsSent (λ volumes. StandsTold pieces volumes a b) (hits_of_batches v.pushed)) pieces answers
      → EachHolds (IsSent (λ volumes. StandsTold pieces volumes a c) (hits_of_batches w.pushed)) pieces answers
  each_after answers each =
      each_so (IsSent (λ volumes. StandsTold pieces volumes a b) (hits_of_batches v.pushed)) (IsSent (λ volumes. StandsTold pieces volumes a c) (hits_of_batches w.pushed))
      (sent_weaker (λ volumes. StandsTold pieces volumes a b) (λ volumes. StandsTold pieces volumes a c) (hits_of_batches v.pushed) (hits_of_batches w.pushed)
      (λ volumes told. told_so_far pieces volumes a b c p q told)
      (λ h inside. subst (λ l. Contains l h) (sym now) (Contains-append_left (hits_of_batches v.pushed) sends.0 h inside))) pieces answers each

  -- and the answer for this piece
  pub each_one_more : (answers after : List (ℕ × Answer)) → after ≡ answers ++ (x, answer) ∷ [] → is_failure answer ≡ false
      → EachHolds (IsSent (λ volumes. StandsTold pieces volumes a b) (hits_of_batches v.pushed)) pieces answers
      → EachHolds (IsSent (λ volumes. StandsTold pieces volumes a c) (hits_of_batches w.pushed)) pieces after
  each_one_more answers after is sound each =
      subst (EachHolds (IsSent (λ volumes. StandsTold pieces volumes a c) (hits_of_batches w.pushed)) pieces) (sym is)
      (all_more (λ (y : ℕ × Answer). HoldsAt (IsSent (λ volumes. StandsTold pieces volumes a c) (hits_of_batches w.pushed)) pieces y.0 y.1) answers (x, answer) (each_after answers each)
      (holds_at (IsSent (λ volumes. StandsTold pieces volumes a c) (hits_of_batches w.pushed)) pieces x piece answer low e (record {
        hits = λ volumes told. says_more volumes sends.0 (hits_of_batches w.pushed) piece answer
            (λ h inside. subst (λ l. Contains l h) (sym now) (Contains-append_right (hits_of_batches v.pushed) sends.0 h inside)) (over_told pieces volumes x piece _ a b c p q low e sends.2 told).1;
        sound = sound;
      })))

  -- the drive failed at this piece
  pub sent_stops : (claims : TableId) (left : List ℕ) (fb fm fa : ℕ) (was_out is_out : Bool) (seat : Seated) (answers : List (ℕ × Answer)) → was_out ≡ false → is_out ≡ true → seat.claims ≡ claims
      → fb ≤ fm → fm < fa → v.parts ≡ 1 → ((volumes : List Volume) → StandsTold pieces volumes a b → AllComeTo volumes pieces (hits_of_batches v.pushed))
      → EachHolds (IsSent (λ volumes. StandsTold pieces volumes a b) (hits_of_batches v.pushed)) pieces answers
      → HasSent claims pieces left a c fb fa was_out is_out seat answers w
  sent_stops claims left fb fm fa was_out is_out seat answers was is of less more parts come each = record {
    parts = parts_after parts;
    come = come_after come;
    worked = record {
      claims_are = of;
      served = record {
        grows = grows_more a b c p q;
        counted = omega (arith, less, more);
        stays = λ h. is;
        risen = λ h k. omega (arith, less, more);
      };
      each = each_after answers each;
      answered = λ h. absurd (differ (sym is ∙ h ∙ was));
      ended = λ h. absurd (differ (sym is ∙ h));
    };
  }
    where
      differ : true ≡ false → ⊥
      differ h = absurd cc

-- no piece is left to be drawn
pub sent_ends : (claims : TableId) (pieces : List Piece) (left : List ℕ) (a c : Option (List Volume)) (fb fa : ℕ) (was_out is_out : Bool) (seat : Seated) (answers : List (ℕ × Answer)) (v : Crew)
    → is_out ≡ false → seat.claims ≡ claims → OnlyGrows a c → fb ≤ fa → (was_out ≡ false) → numbers_of answers ≡ map (number_at left) seat.drawn → seat.ended ≡ true → v.parts ≡ 1
    → ((volumes : List Volume) → StandsTold pieces volumes a c → AllComeTo volumes pieces (hits_of_batches v.pushed))
    → EachHolds (IsSent (λ volumes. StandsTold pieces volumes a c) (hits_of_batches v.pushed)) pieces answers
    → HasSent claims pieces left a c fb fa was_out is_out seat answers v
sent_ends claims pieces left a c fb fa was_out is_out seat answers v is of grows counted was drawn ended parts come each = record {
  parts = parts;
  come = come;
  worked = record {
    claims_are = of;
    served = record {
      grows = grows;
      counted = counted;
      stays = λ h. absurd (differ (sym was ∙ h));
      risen = λ h k. absurd (differ (sym is ∙ k));
    };
    each = each;
    answered = λ h. drawn;
    ended = λ h. ended;
  };
}
  where
    differ : false ≡ true → ⊥
    differ h = absurd cc
