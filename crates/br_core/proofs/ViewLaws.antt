-- How a restore of the machine that runs moves, as it is seen.
use Rattle.std.proofs.Common.{◌≡◌, ℕ, ◌+◌, List, [], ◌∷◌, ◌++◌, map, take, drop, set, option_map, Bool, false, cond, is_ok, is_err, Option, Some, None, Result, Ok, Err, refl, sym, ap, subst, ◌∙◌, inl, inr}
use Rattle.std.proofs.lemmas.List.{map-append, map-set, take-map, drop-map}
use Rattle.std.proofs.lemmas.Option.{slice_get-map}
use Rattle.std.specs.Prelude.{slice_get, IfErr, OnOk, ⊤}
use Rattle.std.specs.FinMap.{get}
use Rattle.br_model.specs.Volume.{Volume}
use Rattle.br_model.specs.Meaning.{Hit, Piece}
use Rattle.br_model.specs.Job.{Job}
use Rattle.br_match.specs.declared.hit.Batch.{Batch}
use Rattle.br_join.specs.Joining.{Joining, with_batch, with_closed}
use Rattle.br_join.specs.declared.fault.JoinFault.{JoinFault}
use Rattle.br_join.specs.declared.fault.JoinFault.TheVariants.{StrangerPiece}
use Rattle.br_core.specs.Machine as machine
use Rattle.br_core.specs.Machine.{IsRead, IsTaken, goes}
use Rattle.br_core.specs.Machine.Status.{Waiting, Claimed, Finished}
use Rattle.br_core.specs.Reading.{CanBeRead, IsClaimed, ReadsPiece}
use Rattle.br_core.specs.Statuses.{is_finished, status_of}
use Rattle.br_core.specs.View.{CannotMove, Claims, Fails, Finishes, MovesIf, hits_of_batch, hits_of_batches, restore_of}
use Rattle.br_core.specs.declared.fault.StepFault.{StepFault}
use Rattle.br_core.specs.declared.fault.StepFault.TheVariants.{NotEnabled}
use Rattle.br_core.specs.declared.open_restore.OpenRestore.{OpenRestore}
use Rattle.br_core.specs.declared.piece_status.Status as code
use Rattle.br_core.specs.declared.piece_status.Status.TheVariants as at
use Rattle.br_core.proofs.MoveLaws.{AreOf, ends, no_end, no_read, not_ended, not_read, reads, stood}
use Rattle.br_core.proofs.PartLaws.{stands_at}

-- ---- refusals

-- a restore that can't move so is left as it is
pub stays : (Premise : machine.Restore → Type 0) (Move : machine.Restore → machine.Restore → Type 0) (r : OpenRestore) → CannotMove Premise Move r → MovesIf Premise Move r r (Err NotEnabled)
stays Premise Move r cannot = (λ jobs stages. refl, inr (refl, cannot))

-- a piece that does not wait is not claimed
pub not_waiting : (r : OpenRestore) (n : ℕ) → (slice_get r.statuses.items n ≡ Some at.Waiting → ⊥) → MovesIf (λ _. ⊤) (Claims n) r r (Err NotEnabled)
not_waiting r n apart = stays (λ _. ⊤) (Claims n) r (λ jobs stages after always claims. apart (stood r.statuses.items n Waiting claims.0))

-- the walk of a piece that is not claimed does not fail
pub not_claimed : (r : OpenRestore) (n : ℕ) → ((address : ℕ) → slice_get r.statuses.items n ≡ Some (at.Claimed address) → ⊥) → MovesIf (λ _. ⊤) (Fails n) r r (Err NotEnabled)
not_claimed r n apart =
    stays (λ _. ⊤) (Fails n) r (λ jobs stages after always fails. apart fails.0.0 (stood r.statuses.items n (Claimed fails.0.0) fails.0.1))

-- ---- one status

-- a piece gets another status
gone_to : (r : OpenRestore) (jobs : List Job) (stages : List (List Volume)) (n : ℕ) (s : code.Status)
    → ◌≡◌ {A = machine.Restore} (record (restore_of jobs stages r) { statuses = map status_of (set r.statuses.items n s) }) (goes (restore_of jobs stages r) n (status_of s))
gone_to r jobs stages n s = ap (λ (ss : List machine.Status). record (restore_of jobs stages r) { statuses = ss }) (map-set status_of r.statuses.items n s)

-- a waiting piece is claimed
pub claims : (r : OpenRestore) (n : ℕ) → slice_get r.statuses.items n ≡ Some at.Waiting → (jobs : List Job) (stages : List (List Volume))
    → Claims n (restore_of jobs stages r) (record (restore_of jobs stages r) { statuses = map status_of (set r.statuses.items n (at.Claimed 0)) })
claims r n waits jobs stages = (stands_at r.statuses.items n at.Waiting waits, gone_to r jobs stages n (at.Claimed 0))

-- the walk of a claimed piece fails
pub fails : (r : OpenRestore) (n address : ℕ) → slice_get r.statuses.items n ≡ Some (at.Claimed address) → (jobs : List Job) (stages : List (List Volume))
    → Fails n (restore_of jobs stages r) (record (restore_of jobs stages r) { statuses = map status_of (set r.statuses.items n at.Waiting) })
fails r n address claimed jobs stages = ((address, stands_at r.statuses.items n (at.Claimed address) claimed), gone_to r jobs stages n at.Waiting)

-- ---- reads

-- a restore's pieces and statuses are those of how it is seen
are_of : (r : OpenRestore) (jobs : List Job) (stages : List (List Volume)) → AreOf (restore_of jobs stages r) r.pieces.items r.statuses.items
are_of r jobs stages = record { pieces_are = r.parts.pieces_are; statuses_are = refl }

-- what was read of pieces and statuses that are the restore's
pub read_of : (r : OpenRestore) (pieces : List Piece) (statuses : List code.Status) (n : ℕ) (shown : List Volume) (result : Result (Option (Batch × ℕ)) StepFault)
    → pieces ≡ r.pieces.items → statuses ≡ r.statuses.items → ReadsPiece pieces statuses n shown result → ReadsPiece r.pieces.items r.statuses.items n shown result
read_of r pieces statuses n shown result of with given =
    subst (λ (ps : List Piece). ReadsPiece ps r.statuses.items n shown result) of (subst (λ (ss : List code.Status). ReadsPiece pieces ss n shown result) with given)

-- the hits of a block come on their way
pub reads_block : (r : OpenRestore) (n : ℕ) (shown : List Volume) (batch : Batch) (next : ℕ) (transit : List (ℕ × Batch)) → ReadsPiece r.pieces.items r.statuses.items n shown (Ok (Some (batch, next)))
    → transit ≡ r.transit.items ++ (n, batch) ∷ [] → (jobs : List Job) (stages : List (List Volume)) → CanBeRead (restore_of jobs stages r) n shown
    → IsRead (restore_of jobs stages r) n shown
    (record (restore_of jobs stages r) { statuses = map status_of (set r.statuses.items n (at.Claimed next)); transit = hits_of_batches transit })
reads_block r n shown batch next transit given pushed jobs stages can =
    let before : machine.Restore = restore_of jobs stages r in
    let statuses : List machine.Status = map status_of (set r.statuses.items n (at.Claimed next)) in
    let more : hits_of_batches transit ≡ before.transit ++ batch.hits.items ∷ [] =
    ap hits_of_batches pushed ∙ map-append hits_of_batch r.transit.items ((n, batch) ∷ []) in
    let went : ◌≡◌ {A = machine.Restore} (record before { statuses = statuses; transit = hits_of_batches transit })
    (record (goes before n (Claimed next)) { transit = before.transit ++ batch.hits.items ∷ [] }) =
    ap (λ (t : List (List Hit)). record before { statuses = statuses; transit = t }) more
    ∙ ap (λ (ss : List machine.Status). record before { statuses = ss; transit = before.transit ++ batch.hits.items ∷ [] }) (map-set status_of r.statuses.items n (at.Claimed next)) in
    reads before _ r.pieces.items r.statuses.items n shown batch next (are_of r jobs stages) given went can

-- a walk at its end reads no block
pub reads_nothing : (r : OpenRestore) (n : ℕ) (shown : List Volume) → ReadsPiece r.pieces.items r.statuses.items n shown (Ok None)
    → MovesIf (λ m. CanBeRead m n shown) (λ m after. IsRead m n shown after) r r (Err NotEnabled)
reads_nothing r n shown given =
    stays (λ m. CanBeRead m n shown) (λ m after. IsRead m n shown after) r
    (λ jobs stages after can is. not_read (restore_of jobs stages r) after r.pieces.items r.statuses.items n shown (are_of r jobs stages) given can is)

-- no block is read if the walk is refused
pub read_refused : (r : OpenRestore) (n : ℕ) (shown : List Volume) (fault : StepFault) → ReadsPiece r.pieces.items r.statuses.items n shown (Err fault)
    → MovesIf (λ m. CanBeRead m n shown) (λ m after. IsRead m n shown after) r r (Err fault)
read_refused r n shown fault (inl memory) = (λ jobs stages. refl, inl memory)
read_refused r n shown fault (inr it) = (
  λ jobs stages. refl,
  inr (
    it.0,
    λ jobs stages after can is.
        no_read (restore_of jobs stages r) after r.pieces.items r.statuses.items n shown (are_of r jobs stages) can it.1 is,
  ),
)

-- ---- the end of a walk

-- a walk is at its end, and the joiner closed the piece
pub finishes : (r : OpenRestore) (n : ℕ) (shown : List Volume) (joiner : Joining) → ReadsPiece r.pieces.items r.statuses.items n shown (Ok None) → joiner ≡ with_closed r.joiner n
    → (jobs : List Job) (stages : List (List Volume)) → CanBeRead (restore_of jobs stages r) n shown
    → Finishes n shown (restore_of jobs stages r) (record (restore_of jobs stages r) { statuses = map status_of (set r.statuses.items n at.Finished); taken = joiner.hits })
finishes r n shown joiner given closed jobs stages can = (
  ends (restore_of jobs stages r) r.pieces.items r.statuses.items n shown (are_of r jobs stages) given can,
  ap (λ (j : Joining). record (restore_of jobs stages r) { statuses = map status_of (set r.statuses.items n at.Finished); taken = j.hits }) closed
      ∙ gone_to r jobs stages n at.Finished,
)

-- a walk before a block is not at its end
pub finishes_nothing : (r : OpenRestore) (n : ℕ) (shown : List Volume) (batch : Batch) (next : ℕ) → ReadsPiece r.pieces.items r.statuses.items n shown (Ok (Some (batch, next)))
    → MovesIf (λ m. CanBeRead m n shown) (Finishes n shown) r r (Err NotEnabled)
finishes_nothing r n shown batch next given =
    stays (λ m. CanBeRead m n shown) (Finishes n shown) r
    (λ jobs stages after can is. not_ended (restore_of jobs stages r) r.pieces.items r.statuses.items n shown batch next (are_of r jobs stages) given can is.0)

-- no walk ends if it is refused
pub finish_refused : (r : OpenRestore) (n : ℕ) (shown : List Volume) (fault : StepFault) → ReadsPiece r.pieces.items r.statuses.items n shown (Err fault)
    → MovesIf (λ m. CanBeRead m n shown) (Finishes n shown) r r (Err fault)
finish_refused r n shown fault (inl memory) = (λ jobs stages. refl, inl memory)
finish_refused r n shown fault (inr it) = (
  λ jobs stages. refl,
  inr (
    it.0,
    λ jobs stages after can is.
        no_end (restore_of jobs stages r) r.pieces.items r.statuses.items n shown (are_of r jobs stages) can it.1 is.0,
  ),
)

-- the joiner closes a claimed piece: it is one of its own
pub piece_closes : (r : OpenRestore) (n : ℕ) (joiner : Joining) (result : Result (Unit {0}) JoinFault) → IsClaimed r.statuses.items n
    → OnOk result (joiner ≡ with_closed r.joiner n) → IfErr result (λ fault. (fault ≡ StrangerPiece) × (get r.joiner.pieces n ≡ None)) → joiner ≡ with_closed r.joiner n
piece_closes r n joiner (Ok _) claimed done stranger = done
piece_closes r n joiner (Err fault) claimed done stranger = absurd (some_is_not_none (sym (r.parts.closed n ∙ ap (option_map is_finished) claimed.1) ∙ stranger.1))
  where
    some_is_not_none : ◌≡◌ {A = Option Bool} (Some false) None → ⊥
    some_is_not_none e = absurd cc

-- what was pushed is at the end
pub is_pushed : {X E Y : Type 0} (result : Result X E) (now more was : List Y) → now ≡ cond (is_ok result) more was → is_err result ≡ false → now ≡ more
is_pushed (Ok x) now more was items fine = items
is_pushed (Err e) now more was items fine = absurd cc

-- ---- takes

-- the hits of the batches that are left
hits_without : (batches : List (ℕ × Batch)) (place : ℕ)
    → hits_of_batches (take place batches ++ drop (place + 1) batches) ≡ take place (hits_of_batches batches) ++ drop (place + 1) (hits_of_batches batches)
hits_without batches place =
    map-append hits_of_batch (take place batches) (drop (place + 1) batches)
    ∙ ap (λ (l : List (List Hit)). l ++ map hits_of_batch (drop (place + 1) batches)) (sym (take-map hits_of_batch place batches))
    ∙ ap (λ (l : List (List Hit)). take place (hits_of_batches batches) ++ l) (sym (drop-map hits_of_batch (place + 1) batches))

-- a batch is taken
pub takes : (r : OpenRestore) (place : ℕ) (b : ℕ × Batch) (transit : List (ℕ × Batch)) (joiner : Joining) → slice_get r.transit.items place ≡ Some b
    → transit ≡ take place r.transit.items ++ drop (place + 1) r.transit.items → joiner ≡ with_batch r.joiner b.1.hits.items → (jobs : List Job) (stages : List (List Volume))
    → IsTaken (restore_of jobs stages r) place (record (restore_of jobs stages r) { transit = hits_of_batches transit; taken = joiner.hits })
takes r place b transit joiner there left taken jobs stages = record {
  batch = b.1.hits.items;
  under_way = slice_get-map hits_of_batch r.transit.items place ∙ ap (option_map hits_of_batch) there;
  after_is =
      ap (λ (t : List (List Hit)). record (restore_of jobs stages r) { transit = t; taken = joiner.hits }) (ap hits_of_batches left ∙ hits_without r.transit.items place)
      ∙ ap (λ (j : Joining). record (restore_of jobs stages r) { transit = take place (hits_of_batches r.transit.items) ++ drop (place + 1) (hits_of_batches r.transit.items); taken = j.hits }) taken;
}
