use Rattle.std.proofs.Common.{rules, ◌≡◌, [], ◌∷◌, Err, ap, ◌∙◌}
use Rattle.br_sink.specs.FileParts.{with_bytes}
use Rattle.br_sink.specs.declared.file_parts.PartsFault.{PartsFault}
use Rattle.br_sink.specs.declared.file_parts.PartsFault.TheVariants.{Fault}
use Rattle.br_sink.proofs.LeavingLaws.{notes_more}
use Rattle.br_sink.proofs.PassingLaws.{fault_noted}
use Rattle.br_sink.proofs.keep_going_delivery.put_one_by_parts.Goals as goal

pub returns-in-Ok-clause-noted : goal.returns-in-Ok-clause-noted
returns-in-Ok-clause-noted g c = λ start noted.
    notes_more start (g.S.Sink.has c.args.sink.now) (g.S.Sink.has c.put_parts.new.self) (g.S.Sink.failures c.args.sink.now) (g.S.Sink.failures c.put_parts.new.self)
    c.args.noted.now c.take_one.new.self (with_bytes c.args.item.now c.in-Ok.bytes ∷ []) noted c.in-Ok.ensures.put c.put_parts.ensures.counted
    (record { taken = search rules; left = c.take_one.ensures.left; paths = c.take_one.ensures.paths })

pub returns-clause-noted : goal.returns-clause-noted
returns-clause-noted g c = λ start noted.
    fault_noted start (g.S.Sink.has c.args.sink.now) (g.S.Sink.has c.put_parts.new.self) (g.S.Sink.failures c.args.sink.now) (g.S.Sink.failures c.put_parts.new.self)
    c.args.noted.now c.leave_parts_at.new.noted c.args.item.now (c.in-Err.fault ≡ Fault) c.leave_parts_at.result c.in-Err.ensures.refused c.put_parts.ensures.counted
    (λ is. c.put_parts.ensures.failed (c.in-Err.is ∙ ap (λ (f : PartsFault). Err f) is)) c.leave_parts_at.ensures.left c.leave_parts_at.ensures.none noted
