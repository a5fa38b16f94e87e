use Rattle.std.proofs.Common.{◌≡◌, [], ◌∷◌, Err, ap, ◌∙◌}
use Rattle.br_sink.specs.declared.fault.SinkFault.{SinkFault}
use Rattle.br_sink.specs.declared.fault.SinkFault.TheVariants.{Fault}
use Rattle.br_sink.proofs.LeavingLaws.{notes_more}
use Rattle.br_sink.proofs.PassingLaws.{fault_noted}
use Rattle.br_sink.proofs.keep_going_delivery.put_one.Goals as goal

pub returns-in-Ok-clause-noted : goal.returns-in-Ok-clause-noted
returns-in-Ok-clause-noted g c = λ start noted.
    notes_more start (g.S.Sink.has c.args.sink.now) (g.S.Sink.has c.put.new.self) (g.S.Sink.failures c.args.sink.now) (g.S.Sink.failures c.put.new.self)
    c.args.noted.now c.take_one.new.self (c.args.item.now ∷ []) noted c.in-Ok.ensures.put c.put.ensures.counted c.take_one.ensures

pub returns-in-Err-clause-noted : goal.returns-in-Err-clause-noted
returns-in-Err-clause-noted g c = λ start noted.
    fault_noted start (g.S.Sink.has c.args.sink.now) (g.S.Sink.has c.put.new.self) (g.S.Sink.failures c.args.sink.now) (g.S.Sink.failures c.put.new.self)
    c.args.noted.now c.leave_at.new.noted c.args.item.now (c.in-Err.fault ≡ Fault) c.leave_at.result c.in-Err.ensures.refused c.put.ensures.counted
    (λ is. c.put.ensures.failed (c.in-Err.is ∙ ap (λ (f : SinkFault). Err f) is)) c.leave_at.ensures.left c.leave_at.ensures.none noted
