use Rattle.std.proofs.Common.{Ok, Err, subst}
use Rattle.br_volume.specs.Drive.{AnswersOver}
use Rattle.br_volume.specs.declared.drive.Got.{Got}
use Rattle.br_volume.specs.declared.fault.DriveFault.{DriveFault}
use Rattle.br_data.specs.Rereading.{AreFirst}
use Rattle.br_data.proofs.ReadLaws.{of_earlier, first_read, none_at_end, none_if_unknown, shows_first}
use Rattle.br_data.proofs.reread_fragment.read_bytes.Goals as goal

pub returns-in-Ok-Block-clause-first : goal.returns-in-Ok-Block-clause-first
returns-in-Ok-Block-clause-first g c =
    let earlier = g.D.Drive.shows c.args.drive.now in
    let later = g.D.Drive.shows c.block_at.new.self in
    let buffer = c.block_at.new.buf.items in
    of_earlier earlier later c.args.vol.now c.args.addr (AreFirst buffer c.args.size) c.block_at.ensures.grows
    (first_read later c.args.vol.now c.args.addr c.args.size c.in-Ok-Block.field-0-0 buffer
    (subst (λ (got : Got). AnswersOver later c.args.vol.now (c.args.addr, c.args.size) buffer (Ok got)) c.in-Ok-Block.field-0-is c.in-Ok-Block.ensures.answers))

pub returns-in-Ok-End-clause-gone : goal.returns-in-Ok-End-clause-gone
returns-in-Ok-End-clause-gone g c _ =
    let earlier = g.D.Drive.shows c.args.drive.now in
    let later = g.D.Drive.shows c.block_at.new.self in
    of_earlier earlier later c.args.vol.now c.args.addr (λ block. ⊥) c.block_at.ensures.grows
    (none_at_end later c.args.vol.now c.args.addr c.args.size c.block_at.new.buf.items
    (subst (λ (got : Got). AnswersOver later c.args.vol.now (c.args.addr, c.args.size) c.block_at.new.buf.items (Ok got)) c.in-Ok-End.field-0-is c.in-Ok-End.ensures.answers))

pub returns-in-Ok-Block-clause-shown : goal.returns-in-Ok-Block-clause-shown
returns-in-Ok-Block-clause-shown g c =
    let later = g.D.Drive.shows c.block_at.new.self in
    let buffer = c.block_at.new.buf.items in
    shows_first later c.args.vol.now c.args.addr c.args.size c.in-Ok-Block.field-0-0 buffer
    (subst (λ (got : Got). AnswersOver later c.args.vol.now (c.args.addr, c.args.size) buffer (Ok got)) c.in-Ok-Block.field-0-is c.in-Ok-Block.ensures.answers)

pub returns-in-Err-UnknownVolume-clause-gone : goal.returns-in-Err-UnknownVolume-clause-gone
returns-in-Err-UnknownVolume-clause-gone g c _ =
    let earlier = g.D.Drive.shows c.args.drive.now in
    let later = g.D.Drive.shows c.block_at.new.self in
    of_earlier earlier later c.args.vol.now c.args.addr (λ block. ⊥) c.block_at.ensures.grows
    (none_if_unknown later c.args.vol.now c.args.addr c.args.size c.block_at.new.buf.items
    (subst (λ (why : DriveFault). AnswersOver later c.args.vol.now (c.args.addr, c.args.size) c.block_at.new.buf.items (Err why)) c.in-Err-UnknownVolume.field-0-is c.in-Err-UnknownVolume.ensures.answers))
