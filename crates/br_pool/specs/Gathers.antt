-- What a joiner has from the hits that workers send, round by round.
use Rattle.std.specs.Prelude.{◌≡◌, ℕ, ◌+◌, true, Bool, List, ◌++◌, map, reverse, flat_map, Option}
use Rattle.std.specs.List.{AllZip}
use Rattle.atomic_table.specs.Seated.{TableId}
use Rattle.br_model.specs.Volume.{Volume}
use Rattle.br_model.specs.Meaning.{Piece, Hit}
use Rattle.br_match.specs.Come.{AllComeTo}
use Rattle.br_match.specs.declared.hit.Batch.{Batch}
use Rattle.br_join.specs.Joining.{Joining, with_batch}
use Rattle.br_pool.specs.Outlets.{outlet_view}
use Rattle.br_pool.specs.Pool.{StandsTold}
use Rattle.br_pool.specs.Sending.{AreIn, IsSent}
use Rattle.br_pool.specs.Workers.{Answer, HasWorkedBy}
use Rattle.br_pool.specs.declared.batch_queue.Crew.{Crew}
use Rattle.br_pool.specs.declared.sender.SendRound.{SendRound}
use Rattle.br_pool.specs.declared.sender.Sender.{Sender}
use Rattle.br_pool.specs.declared.worker.Worker.{Worker}

-- the same pass with n fewer parts
abbrev pub HasHired : ℕ → Crew → Crew → Type 0
HasHired n v w = (w.gathers ≡ v.gathers) × (w.parts + n ≡ v.parts) × (w.pushed ≡ v.pushed) × (w.popped ≡ v.popped)

-- the same pass with n more parts, which took in passes that pushed these batches, and maybe popped some
abbrev pub HasTakenIn : ℕ → List Batch → Crew → Crew → Type 0
HasTakenIn n batches v w = (w.gathers ≡ v.gathers) × (w.parts ≡ v.parts + n) × (w.pushed ≡ v.pushed ++ batches)

-- what the senders sent, from the last one to the first
abbrev pub sent_of : {D : Type 0} → List (Sender D) → List Batch
sent_of {D} senders = flat_map (λ (s : Sender D). (outlet_view s.outlet).pushed) (reverse senders)

-- The joiner took hits. Walks come to these hits over all volumes for which `over` holds, and this
-- predicate holds of the hits.
pub record Gathers (over : List Volume → Type 0) (pieces : List Piece) (old new : Joining) (fact : List Hit → Type 0) : Type 0 where
  pub taken : List Hit
  pub took : new ≡ with_batch old taken
  pub come : (volumes : List Volume) → over volumes → AllComeTo volumes pieces taken
  pub more : fact taken

-- the answer is that of a piece whose hits are among these, over what the worker's drive showed
abbrev pub by_sending : {D : Type 0} → List Piece → (D → Option (List Volume)) → List Hit → Worker D → Worker D → Piece → Answer → Type 0
by_sending pieces shows sent before after = IsSent (λ volumes. StandsTold pieces volumes (shows before.reader.drive) (shows after.reader.drive)) sent

-- a worker before its run and after it: its hits are among these
abbrev pub HasRunFor : {D : Type 0} → (D → Option (List Volume)) → (D → ℕ) → TableId → List Piece → List ℕ → List Hit → Worker D → Worker D → Type 0
HasRunFor shows failures claims pieces left sent before after =
    HasWorkedBy (by_sending pieces shows sent before after) claims pieces left (shows before.reader.drive) (shows after.reader.drive)
    (failures before.reader.drive) (failures after.reader.drive) before.reader.out after.reader.out after.seat after.answers.items

-- what the drives of workers show
abbrev pub shown_to : {D : Type 0} → (D → Option (List Volume)) → List (Worker D) → List (Option (List Volume))
shown_to {D} shows workers = map (λ (w : Worker D). shows w.reader.drive) workers

-- The workers ran. The hits of their pieces are among those that they sent. These were taken if
-- nothing was lost.
abbrev pub HaveSent : {D : Type 0} → (D → Option (List Volume)) → (D → ℕ) → TableId → List Piece → List ℕ → List (Worker D) → List (Worker D) → Joining → Joining → Bool → Type 0
HaveSent shows failures claims pieces left before after old new fine =
    (sent : List Hit) × AllZip (HasRunFor shows failures claims pieces left sent) before after
    × Gathers (λ volumes. AllZip (StandsTold pieces volumes) (shown_to shows before) (shown_to shows after)) pieces old new (λ taken. fine ≡ true → AreIn sent taken)

-- the same for a round
abbrev pub HaveSentIn : {D G : Type 0} → (D → Option (List Volume)) → (D → ℕ) → SendRound G → List (Worker D) → List (Worker D) → Joining → Joining → Bool → Type 0
HaveSentIn shows failures sending before after old new fine =
    HaveSent shows failures sending.round.now.claims.now.claims sending.round.now.pieces.now sending.round.now.left.now before after old new fine
