use Rattle.std.proofs.Common.{ℕ, Ok, Err, Some, refl, sym, ap, ◌∙◌}
use Rattle.br_volume.specs.Memory.{volumes_of}
use Rattle.br_core.proofs.NextLaws.{given_over, read_refused}
use Rattle.br_core.proofs.reading.next_block.Goals as goal

pub returns-in-Ok-None : goal.returns-in-Ok-None
returns-in-Ok-None c =
    given_over _ _ _ _ _ _ _ c.next.new.self.addr (Ok c.in-Ok-None.field-0) _ c.new-drive.ensures c.in_ok-walk.ensures.of c.in_ok-walk.ensures.start (ap Ok c.in-Ok-None.field-0-is) c.in-Ok-None.ensures.hits

pub returns-in-Ok-Some : goal.returns-in-Ok-Some
returns-in-Ok-Some c volumes extend enclosed follows =
    given_over _ _ _ _ _ _ _ c.next.new.self.addr (Ok c.in-Ok-Some.field-0) (Ok (Some c.in-Ok-Some.batch)) c.new-drive.ensures c.in_ok-walk.ensures.of c.in_ok-walk.ensures.start
    (ap Ok c.in-Ok-Some.field-0-is) c.in-Ok-Some.ensures.hits volumes extend enclosed follows
    ∙ ap (λ (next : ℕ). Ok (Some (c.in-Ok-Some.batch.hits.items, next))) (sym c.addr.ensures)

pub returns : goal.returns
returns c =
    read_refused (volumes_of c.args.volumes.now) c.args.piece.now c.args.addr c.in-Err.fault _ c.read_fault.ensures
    (given_over _ _ _ _ _ _ _ c.next.new.self.addr (Err c.in-Err.fault) (Err c.in-Err.fault) c.new-drive.ensures c.in_ok-walk.ensures.of c.in_ok-walk.ensures.start refl c.in-Err.ensures.hits)
