use Rattle.std.proofs.Common.{ℕ, List, Option, Some, None, Ok, Err, sym, ap, subst, ◌∙◌, set}
use Rattle.std.specs.Prelude.{slice_get}
use Rattle.br_volume.specs.Memory.{volumes_of}
use Rattle.br_match.specs.declared.hit.Batch.{Batch}
use Rattle.br_join.specs.Joining.{Joining}
use Rattle.br_core.specs.Parts.{AreParts}
use Rattle.br_core.specs.Reading.{ReadsPiece}
use Rattle.br_core.specs.declared.piece_status.Status.{Status}
use Rattle.br_core.specs.declared.piece_status.Status.TheVariants.{Finished}
use Rattle.br_core.proofs.PartLaws.{parts_finished}
use Rattle.br_core.proofs.ViewLaws.{finish_refused, finishes, finishes_nothing, piece_closes, read_of}
use Rattle.br_core.proofs.open_restore.OpenRestore.finish.Goals as goal

pub invariant_of-self : goal.invariant_of-self
invariant_of-self c =
    let r = c.args.self.now in
    let claimed = c.in-Ok-None.ensures.claimed in
    let at = ap (λ (ss : List Status). slice_get ss c.args.piece) (sym c.deref-2.ensures.value) ∙ claimed.1 in
    let closed = piece_closes r c.args.piece c.close_piece.new.self c.close_piece.result (claimed.0, at) c.close_piece.ensures.ok c.close_piece.ensures.stranger in
    record {
      parts = subst (λ (j : Joining). AreParts r.plan r.pieces.items (set r.statuses.items c.args.piece Finished) r.transit.items j) (sym closed)
          (parts_finished _ _ _ _ _ c.args.piece claimed.0 at r.parts);
    }

pub returns-in-Ok-None : goal.returns-in-Ok-None
returns-in-Ok-None c jobs stages can =
    let r = c.args.self.now in
    let shown = volumes_of c.args.volumes.now in
    let claimed = c.in-Ok-None.ensures.claimed in
    let at = ap (λ (ss : List Status). slice_get ss c.args.piece) (sym c.deref-2.ensures.value) ∙ claimed.1 in
    let closed = piece_closes r c.args.piece c.close_piece.new.self c.close_piece.result (claimed.0, at) c.close_piece.ensures.ok c.close_piece.ensures.stranger in
    let given = subst (λ (o : Option (Batch × ℕ)). ReadsPiece c.deref.result.now c.deref-2.result.now c.args.piece shown (Ok o)) c.in-Ok-None.field-0-is c.in-Ok-None.ensures.given in
    finishes r c.args.piece shown c.close_piece.new.self (read_of r _ _ c.args.piece shown (Ok None) c.deref.ensures.value c.deref-2.ensures.value given) closed jobs stages can

pub returns-in-Ok-Some : goal.returns-in-Ok-Some
returns-in-Ok-Some c =
    let r = c.args.self.now in
    let shown = volumes_of c.args.volumes.now in
    let s = c.in-Ok-Some.field-0-0 in
    let given = subst (λ (o : Option (Batch × ℕ)). ReadsPiece c.deref.result.now c.deref-2.result.now c.args.piece shown (Ok o)) c.in-Ok-Some.field-0-is c.in-Ok-Some.ensures.given in
    finishes_nothing r c.args.piece shown s.0 s.1 (read_of r _ _ c.args.piece shown (Ok (Some s)) c.deref.ensures.value c.deref-2.ensures.value given)

pub returns : goal.returns
returns c =
    let r = c.args.self.now in
    let shown = volumes_of c.args.volumes.now in
    finish_refused r c.args.piece shown c.in-Err.fault (read_of r _ _ c.args.piece shown (Err c.in-Err.fault) c.deref.ensures.value c.deref-2.ensures.value c.in-Err.ensures.given)
