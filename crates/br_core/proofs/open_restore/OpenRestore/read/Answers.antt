use Rattle.std.proofs.Common.{ℕ, List, Option, Some, None, Ok, Err, sym, ap, subst, ◌∙◌, set}
use Rattle.std.specs.Prelude.{slice_get}
use Rattle.br_volume.specs.Memory.{volumes_of}
use Rattle.br_match.specs.declared.hit.Batch.{Batch}
use Rattle.br_core.specs.Parts.{AreParts}
use Rattle.br_core.specs.Reading.{ReadsPiece}
use Rattle.br_core.specs.declared.piece_status.Status.{Status}
use Rattle.br_core.specs.declared.piece_status.Status.TheVariants.{Claimed}
use Rattle.br_core.proofs.PartLaws.{parts_read}
use Rattle.br_core.proofs.ViewLaws.{is_pushed, read_of, read_refused, reads_block, reads_nothing}
use Rattle.br_core.proofs.open_restore.OpenRestore.read.Goals as goal

pub invariant_of-self-in-Ok-Some : goal.invariant_of-self-in-Ok-Some
invariant_of-self-in-Ok-Some c =
    let r = c.args.self.now in
    let claimed = c.in-Ok-Some.ensures.claimed in
    let pushed = is_pushed c.push.result _ _ _ c.push.ensures.items (sym c.is_err.ensures.value ∙ c.if-is_err.false) in
    let at = ap (λ (ss : List Status). slice_get ss c.args.piece) (sym c.deref-2.ensures.value) ∙ claimed.1 in
    record {
      parts = subst (λ (t : List (ℕ × Batch)). AreParts r.plan r.pieces.items (set r.statuses.items c.args.piece (Claimed c.in-Ok-Some.next)) t r.joiner) (sym pushed)
          (parts_read _ _ _ _ _ c.args.piece claimed.0 c.in-Ok-Some.next c.in-Ok-Some.batch at r.parts);
    }

pub returns-else-is_err : goal.returns-else-is_err
returns-else-is_err c jobs stages can =
    let shown = volumes_of c.args.volumes.now in
    let given = subst (λ (o : Option (Batch × ℕ)). ReadsPiece c.deref.result.now c.deref-2.result.now c.args.piece shown (Ok o)) c.in-Ok-Some.field-0-is c.in-Ok-Some.ensures.given in
    let pushed = is_pushed c.push.result _ _ _ c.push.ensures.items (sym c.is_err.ensures.value ∙ c.if-is_err.false) in
    reads_block c.args.self.now c.args.piece shown c.in-Ok-Some.batch c.in-Ok-Some.next c.push.new.self.items
    (read_of c.args.self.now _ _ c.args.piece shown (Ok (Some (c.in-Ok-Some.batch, c.in-Ok-Some.next))) c.deref.ensures.value c.deref-2.ensures.value given) pushed jobs stages can

pub returns-in-Ok-None : goal.returns-in-Ok-None
returns-in-Ok-None c =
    let shown = volumes_of c.args.volumes.now in
    let given = subst (λ (o : Option (Batch × ℕ)). ReadsPiece c.deref.result.now c.deref-2.result.now c.args.piece shown (Ok o)) c.in-Ok-None.field-0-is c.in-Ok-None.ensures.given in
    reads_nothing c.args.self.now c.args.piece shown (read_of c.args.self.now _ _ c.args.piece shown (Ok None) c.deref.ensures.value c.deref-2.ensures.value given)

pub returns-in-Err : goal.returns-in-Err
returns-in-Err c =
    let shown = volumes_of c.args.volumes.now in
    read_refused c.args.self.now c.args.piece shown c.in-Err.fault
    (read_of c.args.self.now _ _ c.args.piece shown (Err c.in-Err.fault) c.deref.ensures.value c.deref-2.ensures.value c.in-Err.ensures.given)
