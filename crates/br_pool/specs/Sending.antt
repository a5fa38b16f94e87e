-- What workers send of pieces.
use Rattle.std.specs.Prelude.{◌≡◌, ℕ, ◌<◌, Bool, false, List, [], ◌∷◌, length, Contains, Option, Ok, Err}
use Rattle.std.specs.List.{AllByRecursion}
use Rattle.atomic_table.specs.Seated.{TableId}
use Rattle.crossbeam_queue.specs.Passes.{Pass}
use Rattle.br_model.specs.Answer.{IsRefusal}
use Rattle.br_model.specs.Volume.{Volume}
use Rattle.br_model.specs.Meaning.{Piece, Hit, hits_on}
use Rattle.br_match.specs.Fault.{cause}
use Rattle.br_match.specs.Walk.{Over}
use Rattle.br_match.specs.Come.{AllComeTo}
use Rattle.br_pool.specs.Crew.{hired}
use Rattle.br_pool.specs.Gathering.{Pushes, hits_of_batches}
use Rattle.br_pool.specs.Outlets.{outlet_view}
use Rattle.br_pool.specs.Pool.{StandsTold}
use Rattle.br_pool.specs.Workers.{Answer, EachAt, HasWorkedBy, IsSetUp, is_failure}
use Rattle.br_claim.specs.Claims.{Seated}
use Rattle.br_match.specs.declared.hit.Batch.{Batch}
use Rattle.br_pool.specs.declared.batch_queue.Crew.{Crew}
use Rattle.br_pool.specs.declared.sender.SendRound.{SendRound}
use Rattle.br_pool.specs.declared.sender.Sender.{Sender}
use Rattle.br_pool.specs.declared.worker.Reader.{Reader}

-- each hit of the first list is in the second
abbrev pub AreIn : List Hit → List Hit → Type 0
AreIn found sent = (hit : Hit) → Contains found hit → Contains sent hit

-- the hits of the piece are among those that were sent, or this is the refusal of the piece
abbrev pub SaysSent : List Volume → List Hit → Piece → Answer → Type 0
SaysSent volumes sent p (Ok found) = (hits : List Hit) × (hits_on volumes p ≡ Ok hits) × AreIn hits sent
SaysSent volumes sent p (Err why) = IsRefusal (cause why) (hits_on volumes p)

-- Over all volumes for which `over` holds, this is the answer for a piece whose hits are sent. No
-- drive failed.
pub record IsSent (over : List Volume → Type 0) (sent : List Hit) (p : Piece) (a : Answer) : Type 0 where
  pub hits : (volumes : List Volume) → over volumes → SaysSent volumes sent p a
  pub sound : is_failure a ≡ false

-- Hits were sent. Over the volumes that the drive may be taken to show, the walk of the piece comes to
-- each of them, and they are those of the piece if it is not refused.
abbrev pub SendsOver : Option (List Volume) → Option (List Volume) → Piece → Crew → Crew → Answer → Type 0
SendsOver earlier later piece v w result =
    (hits : List Hit) × Pushes v w hits × Over earlier later piece (λ volumes. AllComeTo volumes (piece ∷ []) hits × SaysSent volumes hits piece result)

-- What a worker sent in its run, as its outlet shows it. Over the volumes that its drive may be taken
-- to show, walks of pieces come to each of these hits. Its answers are those of pieces whose hits
-- are among them.
pub record HasSent (claims : TableId) (pieces : List Piece) (left : List ℕ) (before after : Option (List Volume)) (failed_before failed_after : ℕ) (was_out is_out : Bool) (seat : Seated) (answers : List (ℕ × Answer)) (v : Crew) : Type 0 where
  pub parts : v.parts ≡ 1
  pub come : (volumes : List Volume) → StandsTold pieces volumes before after → AllComeTo volumes pieces (hits_of_batches v.pushed)
  pub worked : HasWorkedBy (IsSent (λ volumes. StandsTold pieces volumes before after) (hits_of_batches v.pushed)) claims pieces left before after failed_before failed_after was_out is_out seat answers

-- the pass belongs to this queue, and no slot is out with it
abbrev pub IsPassAt : TableId → Pass Batch Crew → Type 0
IsPassAt table pass = (pass.table_id ≡ table) × (pass.me.1 ≡ [])

-- a sender before its run
abbrev pub IsSetUpToSend : {D : Type 0} → TableId → TableId → ℕ → Sender D → Type 0
IsSetUpToSend table claims n sender = IsSetUp claims n sender.worker × IsPassAt table sender.outlet.pass × (outlet_view sender.outlet ≡ hired)

-- a sender before its run and after it
abbrev pub HasRunSending : {D : Type 0} → (D → Option (List Volume)) → (D → ℕ) → TableId → TableId → List Piece → List ℕ → Sender D → Sender D → Type 0
HasRunSending shows failures table claims pieces left before after =
    IsPassAt table after.outlet.pass
    × HasSent claims pieces left (shows before.worker.reader.drive) (shows after.worker.reader.drive) (failures before.worker.reader.drive) (failures after.worker.reader.drive)
    before.worker.reader.out after.worker.reader.out after.worker.seat after.worker.answers.items (outlet_view after.outlet)

-- ---- a round

-- what a reader sent in this round, by this seat and an outlet that shows this
abbrev pub HasSentIn : {D G : Type 0} → (D → Option (List Volume)) → (D → ℕ) → SendRound G → Reader D → Reader D → Seated → List (ℕ × Answer) → Crew → Type 0
HasSentIn shows failures sending before after =
    HasSent sending.round.now.claims.now.claims sending.round.now.pieces.now sending.round.now.left.now (shows before.drive) (shows after.drive)
    (failures before.drive) (failures after.drive) before.out after.out

-- a sender before its run in this round
abbrev pub IsSetUpIn : {D G : Type 0} → SendRound G → Sender D → Type 0
IsSetUpIn sending sender =
    IsSetUpToSend sending.line.now.table.shared.table_id sending.round.now.claims.now.claims sending.round.now.claims.now.limit sender

-- a sender before its run in this round and after it
abbrev pub HasRunIn : {D G : Type 0} → (D → Option (List Volume)) → (D → ℕ) → SendRound G → Sender D → Sender D → Type 0
HasRunIn shows failures sending before after =
    HasRunSending shows failures sending.line.now.table.shared.table_id sending.round.now.claims.now.claims sending.round.now.pieces.now sending.round.now.left.now before after

-- Senders before their run in this round. Each number that is left can be drawn, and is the number
-- of a piece.
abbrev pub AreSetUpIn : {D G : Type 0} → SendRound G → List (Sender D) → Type 0
AreSetUpIn sending senders =
    (sending.round.now.claims.now.limit ≡ length sending.round.now.left.now)
    × AllByRecursion (λ x. x < length sending.round.now.pieces.now) sending.round.now.left.now
    × EachAt (IsSetUpIn sending) senders
