-- What a walk over volumes that go on from those of the plan is given.
use Rattle.std.proofs.Common.{◌≡◌, ℕ, IfOk, List, Option, Some, None, Result, Ok, Err, refl, sym, ap, subst, ◌∙◌, inl, inr}
use Rattle.std.proofs.lemmas.Option.{same_Some}
use Rattle.std.specs.Prelude.{slice_get}
use Rattle.br_model.specs.Answer.{IsRefusal}
use Rattle.br_model.specs.Meaning as model
use Rattle.br_model.specs.Meaning.{Hit, Piece}
use Rattle.br_model.specs.Volume.{Volume, Extends}
use Rattle.br_model.proofs.AnswerLaws.{err_is_not_ok}
use Rattle.br_match.specs.Fault.{cause, cause_number, fault_number, refusal}
use Rattle.br_match.specs.Walk.{AfterWalk, BlockGiven, step_on}
use Rattle.br_match.specs.declared.fault.PieceCause.{PieceCause}
use Rattle.br_match.specs.declared.fault.PieceCause.TheVariants.{BadId, BadBlockSize, Truncated, DriveFault, UnknownVolume}
use Rattle.br_match.specs.declared.fault.PieceFault.{PieceFault}
use Rattle.br_match.specs.declared.fault.PieceFault.TheVariants.{Block, Memory}
use Rattle.br_match.specs.declared.hit.Batch.{Batch}
use Rattle.br_core.specs.Reading.{IsReadFault, OverEnclosing, ReadsNext, ReadsPiece}
use Rattle.br_core.specs.declared.fault.StepFault.{StepFault}
use Rattle.br_core.specs.declared.fault.StepFault.TheVariants.{NotEnabled}
use Rattle.br_core.specs.declared.piece_status.Status as code
use Rattle.br_core.specs.declared.piece_status.Status.TheVariants as at

-- the volumes decide every cause but a drive's failure
pub decided : (why : PieceCause) (vol : List ℕ) (addr : ℕ) → (cause_number why ≡ 13 → ⊥) → (r : model.PieceFault) × (refusal why vol addr ≡ Some r)
decided BadId vol addr sound = (_, refl)
decided BadBlockSize vol addr sound = (_, refl)
decided Truncated vol addr sound = (_, refl)
decided DriveFault vol addr sound = absurd (sound refl)
decided UnknownVolume vol addr sound = (_, refl)

-- a refusal of a block is one that the volumes decide, if the drive did not fail
pub block_refused : (why : PieceFault) (of : PieceCause) (vol : List ℕ) (addr : ℕ) → why ≡ Block of vol addr → (fault_number why ≡ 13 → ⊥) → IsReadFault why NotEnabled
block_refused (Block why at_vol at_addr) of vol addr e sound = let it = decided why at_vol at_addr sound in inr (refl, it.0, it.1)
block_refused Memory of vol addr e sound = absurd cc

-- A walk over a drive that shows some volumes gives what it does over all volumes that these extend
-- and that enclose the piece.
pub given_over : (drive later shown : List Volume) (walked piece : Piece) (from address next : ℕ) (got result : Result (Option Batch) PieceFault)
    → drive ≡ shown → walked ≡ piece → from ≡ address → got ≡ result → AfterWalk (Some drive) (Some later) walked from (BlockGiven walked from next got)
    → OverEnclosing shown piece address (BlockGiven piece address next result)
given_over drive later shown walked piece from address next got result shows of start is given volumes extend enclosed follows =
    let so = subst (λ (r : Result (Option Batch) PieceFault). AfterWalk (Some drive) (Some later) walked from (BlockGiven walked from next r)) is given in
    let here = subst (λ (a : ℕ). AfterWalk (Some drive) (Some later) walked a (BlockGiven walked a next result)) start so in
    let its = subst (λ (p : Piece). AfterWalk (Some drive) (Some later) p address (BlockGiven p address next result)) of here in
    its volumes (subst (λ (vs : List Volume). Extends vs volumes) (sym shows) extend, inr enclosed) follows

-- what a refused walk gives
pub read_refused : (shown : List Volume) (piece : Piece) (address : ℕ) (why : PieceFault) (fault : StepFault) → IsReadFault why fault
    → OverEnclosing shown piece address (λ volumes. IsRefusal (cause why) (step_on volumes piece address)) → ReadsNext shown piece address (Err fault)
read_refused shown piece address why fault (inl memory) refused = inl memory
read_refused shown piece address why fault (inr it) refused =
    inr (
      it.0,
      λ volumes extend enclosed follows step given.
          let no = subst (λ (o : Option model.PieceFault). IsRefusal o (step_on volumes piece address)) it.2 (refused volumes extend enclosed follows) in
          err_is_not_ok it.1 step (sym no ∙ given),
    )

-- ---- the step of a piece

-- a status gives its address
same_address : (a b : ℕ) → at.Claimed a ≡ at.Claimed b → a ≡ b
same_address a b e = cc

-- a claimed piece is read at its address
pub piece_next : (pieces : List Piece) (statuses : List code.Status) (number : ℕ) (shown : List Volume) (piece : Piece) (address : ℕ) (result : Result (Option (Batch × ℕ)) StepFault)
    → slice_get pieces number ≡ Some piece → slice_get statuses number ≡ Some (at.Claimed address) → ReadsNext shown piece address result → ReadsPiece pieces statuses number shown result
piece_next pieces statuses number shown piece address (Ok (Some s)) there claimed reads = λ volumes extend ready.
    let r = ready piece address there claimed in
    record { address = address; piece = piece; claimed = claimed; piece_is = there; step_is = reads volumes extend r.0 r.1 }
piece_next pieces statuses number shown piece address (Ok None) there claimed reads = λ volumes extend ready.
    let r = ready piece address there claimed in
    record { address = address; piece = piece; claimed = claimed; piece_is = there; step_is = reads volumes extend r.0 r.1 }
piece_next pieces statuses number shown piece address (Err fault) there claimed (inl memory) = inl memory
piece_next pieces statuses number shown piece address (Err fault) there claimed (inr it) =
    inr (
      it.0,
      λ volumes extend ready step is.
          let r = ready piece address there claimed in
          let one : piece ≡ is.piece = same_Some piece is.piece (sym there ∙ is.piece_is) in
          let here : address ≡ is.address = same_address address is.address (same_Some (at.Claimed address) (at.Claimed is.address) (sym claimed ∙ is.claimed)) in
          it.1 volumes extend r.0 r.1 step (ap (λ (p : Piece). step_on volumes p address) one ∙ ap (step_on volumes is.piece) here ∙ is.step_is),
    )

-- what holds at any rate holds if a result is not refused
pub if_ok : {X E P : Type 0} (result : Result X E) → P → IfOk result (λ _. P)
if_ok (Ok x) holds = holds
if_ok (Err e) holds = tt
