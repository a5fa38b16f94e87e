-- The moves of a restore are those of the relation.
use Rattle.std.proofs.Common.{◌≡◌, ℕ, List, [], ◌∷◌, ◌++◌, map, option_map, true, false, Option, Some, None, Result, Ok, refl, sym, ap, subst, ◌∙◌}
use Rattle.std.proofs.lemmas.Option.{same_Some, slice_get-map}
use Rattle.std.specs.Prelude.{slice_get}
use Rattle.br_model.specs.Volume.{Volume}
use Rattle.br_model.specs.Meaning as model
use Rattle.br_model.specs.Meaning.{Hit, Piece, pieces_of}
use Rattle.br_match.specs.Walk.{step_on}
use Rattle.br_match.specs.declared.hit.Batch.{Batch}
use Rattle.br_core.specs.Machine.{Restore, Status, IsAtEnd, IsRead, goes, stands}
use Rattle.br_core.specs.Machine.Status.{Waiting, Claimed, Finished}
use Rattle.br_core.specs.Reading.{CanBeRead, IsNext, IsReady, OverReady, ReadsPiece}
use Rattle.br_core.specs.Statuses.{address_in, is_waiting, status_of}
use Rattle.br_core.specs.declared.piece_status.Status as code
use Rattle.br_core.specs.declared.piece_status.Status.TheVariants as at
use Rattle.br_core.proofs.PartLaws.{stands_at}

-- ---- statuses

-- the status that is seen as this one
abbrev pub code_of : Status → code.Status
code_of Waiting = at.Waiting
code_of (Claimed address) = at.Claimed address
code_of Finished = at.Finished

code_back : (s : code.Status) → code_of (status_of s) ≡ s
code_back at.Waiting = refl
code_back (at.Claimed address) = refl
code_back at.Finished = refl

-- a piece that is seen to have a status has it
pub stood : (statuses : List code.Status) (n : ℕ) (s : Status) → slice_get (map status_of statuses) n ≡ Some s → slice_get statuses n ≡ Some (code_of s)
stood statuses n s stands = go (slice_get statuses n) (sym (slice_get-map status_of statuses n) ∙ stands)
  where
    go : (o : Option code.Status) → option_map status_of o ≡ Some s → o ≡ Some (code_of s)
    go None e = absurd cc
    go (Some t) e = ap Some (sym (code_back t) ∙ ap code_of (same_Some (status_of t) s e))

none_is_not_some : {X : Type 0} (x : X) → ◌≡◌ {A = Option X} None (Some x) → ⊥
none_is_not_some x e = absurd cc

-- a piece that waits
pub waiting_is : (o : Option code.Status) → is_waiting o ≡ true → o ≡ Some at.Waiting
waiting_is (Some at.Waiting) e = refl
waiting_is (Some (at.Claimed address)) e = absurd cc
waiting_is (Some at.Finished) e = absurd cc
waiting_is None e = absurd cc

-- one that does not
pub waiting_not : (o : Option code.Status) → is_waiting o ≡ false → o ≡ Some at.Waiting → ⊥
waiting_not o off e = let both : true ≡ false = ap is_waiting (sym e) ∙ off in absurd cc

-- a claimed piece
pub address_is : (o : Option code.Status) (address : ℕ) → address_in o ≡ Some address → o ≡ Some (at.Claimed address)
address_is (Some at.Waiting) address e = absurd cc
address_is (Some (at.Claimed a)) address e = ap (λ (n : ℕ). Some (at.Claimed n)) (same_Some a address e)
address_is (Some at.Finished) address e = absurd cc
address_is None address e = absurd cc

-- one that is not claimed
pub address_none : (o : Option code.Status) → address_in o ≡ None → (address : ℕ) → o ≡ Some (at.Claimed address) → ⊥
address_none o none address e = none_is_not_some address (sym none ∙ ap address_in e)

-- a status gives its address
same_address : (a b : ℕ) → Claimed a ≡ Claimed b → a ≡ b
same_address a b e = cc

-- ---- the step of a piece

-- the pieces and the statuses are those of the restore
pub record AreOf (r : Restore) (pieces : List Piece) (statuses : List code.Status) : Type 0 where
  pub pieces_are : pieces ≡ pieces_of r.plan.groups
  pub statuses_are : map status_of statuses ≡ r.statuses

-- a claimed piece of the plan, as the restore has it
claimed_there : (r : Restore) (pieces : List Piece) (statuses : List code.Status) (n address : ℕ) → AreOf r pieces statuses → slice_get statuses n ≡ Some (at.Claimed address)
    → stands r n (Claimed address)
claimed_there r pieces statuses n address are claimed =
    subst (λ (ss : List Status). slice_get ss n ≡ Some (Claimed address)) are.statuses_are (stands_at statuses n (at.Claimed address) claimed)

-- a piece of a restore that can be read is ready over the volumes of the plan
pub ready_then : (r : Restore) (pieces : List Piece) (statuses : List code.Status) (n : ℕ) (shown : List Volume) → AreOf r pieces statuses → CanBeRead r n shown → IsReady pieces statuses n r.volumes
ready_then r pieces statuses n shown are can piece address there claimed =
    let it = ap (λ (ps : List Piece). slice_get ps n) (sym are.pieces_are) ∙ there in
    (can.enclosed piece it, (can.follows piece address it (claimed_there r pieces statuses n address are claimed)).0)

-- the next step of the walk of a claimed piece, over the volumes that are shown
record IsStepAt (r : Restore) (n : ℕ) (shown : List Volume) (step : Option (List Hit × ℕ)) : Type 0 where
  pub address : ℕ
  pub piece : Piece
  pub claimed : stands r n (Claimed address)
  pub piece_is : slice_get (pieces_of r.plan.groups) n ≡ Some piece
  pub step_is : step_on shown piece address ≡ Ok step

-- a step that was read is one over the volumes that are shown
next_shown : (r : Restore) (pieces : List Piece) (statuses : List code.Status) (n : ℕ) (shown : List Volume) (step : Option (List Hit × ℕ)) → AreOf r pieces statuses → CanBeRead r n shown
    → IsNext pieces statuses n r.volumes step → IsStepAt r n shown step
next_shown r pieces statuses n shown step are can is =
    let there = ap (λ (ps : List Piece). slice_get ps n) (sym are.pieces_are) ∙ is.piece_is in
    let claimed = claimed_there r pieces statuses n is.address are is.claimed in
    record {
      address = is.address;
      piece = is.piece;
      claimed = claimed;
      piece_is = there;
      step_is = (can.follows is.piece is.address there claimed).1 ∙ is.step_is;
    }

-- a step over the volumes that are shown is one over those of the plan
next_planned : (r : Restore) (pieces : List Piece) (statuses : List code.Status) (n : ℕ) (shown : List Volume) (step : Option (List Hit × ℕ)) → AreOf r pieces statuses → CanBeRead r n shown
    → IsStepAt r n shown step → IsNext pieces statuses n r.volumes step
next_planned r pieces statuses n shown step are can is =
    record {
      address = is.address;
      piece = is.piece;
      claimed = stood statuses n (Claimed is.address) (subst (λ (ss : List Status). slice_get ss n ≡ Some (Claimed is.address)) (sym are.statuses_are) is.claimed);
      piece_is = ap (λ (ps : List Piece). slice_get ps n) are.pieces_are ∙ is.piece_is;
      step_is = sym (can.follows is.piece is.address is.piece_is is.claimed).1 ∙ is.step_is;
    }

-- a walk has one next step
one_step : (r : Restore) (n : ℕ) (shown : List Volume) (one other : Option (List Hit × ℕ)) → IsStepAt r n shown one → IsStepAt r n shown other → one ≡ other
one_step r n shown one other this that =
    let piece : this.piece ≡ that.piece = same_Some this.piece that.piece (sym this.piece_is ∙ that.piece_is) in
    let address : this.address ≡ that.address = same_address this.address that.address (same_Some (Claimed this.address) (Claimed that.address) (sym this.claimed ∙ that.claimed)) in
    same_ok (sym this.step_is ∙ ap (λ (p : Piece). step_on shown p this.address) piece ∙ ap (step_on shown that.piece) address ∙ that.step_is)
  where
    same_ok : ◌≡◌ {A = Result (Option (List Hit × ℕ)) model.PieceFault} (Ok one) (Ok other) → one ≡ other
    same_ok e = cc

-- what was read of the piece holds over the volumes that are shown
shown_step : (r : Restore) (pieces : List Piece) (statuses : List code.Status) (n : ℕ) (shown : List Volume) (step : Option (List Hit × ℕ)) → AreOf r pieces statuses → CanBeRead r n shown
    → OverReady pieces statuses n shown (λ volumes. IsNext pieces statuses n volumes step) → IsStepAt r n shown step
shown_step r pieces statuses n shown step are can given =
    next_shown r pieces statuses n shown step are can (given r.volumes can.extend (ready_then r pieces statuses n shown are can))

-- ---- reads

-- the step of a block that is read
read_step : (r after : Restore) (n : ℕ) (shown : List Volume) (is : IsRead r n shown after) → IsStepAt r n shown (Some (is.batch, is.next))
read_step r after n shown is = record { address = is.address; piece = is.the_piece; claimed = is.claimed; piece_is = is.piece_is; step_is = is.step }

-- the step of a walk at its end
end_step : (r : Restore) (n : ℕ) (shown : List Volume) → IsAtEnd r n shown → IsStepAt r n shown None
end_step r n shown is = record { address = is.address; piece = is.the_piece; claimed = is.claimed; piece_is = is.piece_is; step_is = is.ends }

-- a block is read
pub reads : (r after : Restore) (pieces : List Piece) (statuses : List code.Status) (n : ℕ) (shown : List Volume) (batch : Batch) (next : ℕ) → AreOf r pieces statuses
    → ReadsPiece pieces statuses n shown (Ok (Some (batch, next))) → after ≡ record (goes r n (Claimed next)) { transit = r.transit ++ batch.hits.items ∷ [] }
    → CanBeRead r n shown → IsRead r n shown after
reads r after pieces statuses n shown batch next are given after_is can =
    let it = shown_step r pieces statuses n shown (Some (batch.hits.items, next)) are can given in
    record {
      address = it.address;
      next = next;
      batch = batch.hits.items;
      the_piece = it.piece;
      claimed = it.claimed;
      piece_is = it.piece_is;
      step = it.step_is;
      after_is = after_is;
    }

-- a walk is at its end
pub ends : (r : Restore) (pieces : List Piece) (statuses : List code.Status) (n : ℕ) (shown : List Volume) → AreOf r pieces statuses
    → ReadsPiece pieces statuses n shown (Ok None) → CanBeRead r n shown → IsAtEnd r n shown
ends r pieces statuses n shown are given can =
    let it = shown_step r pieces statuses n shown None are can given in
    record { address = it.address; the_piece = it.piece; claimed = it.claimed; piece_is = it.piece_is; ends = it.step_is }

-- ---- what can't be

-- a walk at its end reads nothing
pub not_read : (r after : Restore) (pieces : List Piece) (statuses : List code.Status) (n : ℕ) (shown : List Volume) → AreOf r pieces statuses
    → ReadsPiece pieces statuses n shown (Ok None) → CanBeRead r n shown → IsRead r n shown after → ⊥
not_read r after pieces statuses n shown are given can is =
    none_is_not_some (is.batch, is.next)
    (one_step r n shown None (Some (is.batch, is.next)) (shown_step r pieces statuses n shown None are can given) (read_step r after n shown is))

-- a walk before a block is not at its end
pub not_ended : (r : Restore) (pieces : List Piece) (statuses : List code.Status) (n : ℕ) (shown : List Volume) (batch : Batch) (next : ℕ) → AreOf r pieces statuses
    → ReadsPiece pieces statuses n shown (Ok (Some (batch, next))) → CanBeRead r n shown → IsAtEnd r n shown → ⊥
not_ended r pieces statuses n shown batch next are given can is =
    let step : Option (List Hit × ℕ) = Some (batch.hits.items, next) in
    none_is_not_some (batch.hits.items, next) (one_step r n shown None step (end_step r n shown is) (shown_step r pieces statuses n shown step are can given))

-- there is no step if the read says that there is none
no_step : (r : Restore) (pieces : List Piece) (statuses : List code.Status) (n : ℕ) (shown : List Volume) (step : Option (List Hit × ℕ)) → AreOf r pieces statuses → CanBeRead r n shown
    → OverReady pieces statuses n shown (λ volumes. (s : Option (List Hit × ℕ)) → IsNext pieces statuses n volumes s → ⊥) → IsStepAt r n shown step → ⊥
no_step r pieces statuses n shown step are can given is =
    given r.volumes can.extend (ready_then r pieces statuses n shown are can) step (next_planned r pieces statuses n shown step are can is)

-- neither a block nor the end is read then
pub no_read : (r after : Restore) (pieces : List Piece) (statuses : List code.Status) (n : ℕ) (shown : List Volume) → AreOf r pieces statuses → CanBeRead r n shown
    → OverReady pieces statuses n shown (λ volumes. (s : Option (List Hit × ℕ)) → IsNext pieces statuses n volumes s → ⊥) → IsRead r n shown after → ⊥
no_read r after pieces statuses n shown are can given is = no_step r pieces statuses n shown (Some (is.batch, is.next)) are can given (read_step r after n shown is)

pub no_end : (r : Restore) (pieces : List Piece) (statuses : List code.Status) (n : ℕ) (shown : List Volume) → AreOf r pieces statuses → CanBeRead r n shown
    → OverReady pieces statuses n shown (λ volumes. (s : Option (List Hit × ℕ)) → IsNext pieces statuses n volumes s → ⊥) → IsAtEnd r n shown → ⊥
no_end r pieces statuses n shown are can given is = no_step r pieces statuses n shown None are can given (end_step r n shown is)
