use Rattle.br_sink.specs.Delivery.{items_in}
use Rattle.br_sink.proofs.LeavingLaws.{notes_more}
use Rattle.br_sink.proofs.keep_going_delivery.put_some.Goals as goal

pub returns-in-Ok-clause-noted : goal.returns-in-Ok-clause-noted
returns-in-Ok-clause-noted g c = λ start noted.
    notes_more start (g.S.Sink.has c.args.sink.now) (g.S.Sink.has c.put_all.new.self) (g.S.Sink.failures c.args.sink.now) (g.S.Sink.failures c.put_all.new.self)
    c.args.noted.now c.take.new.self (items_in c.args.outcomes.now) noted c.in-Ok.ensures.put c.put_all.ensures.counted c.take.ensures

pub returns-in-Err-clause-noted : goal.returns-in-Err-clause-noted
returns-in-Err-clause-noted g c = λ start noted.
    c.pass.ensures.noted start (g.S.Sink.has c.args.sink.now) (g.S.Sink.has c.put_all.new.self) (g.S.Sink.failures c.args.sink.now) (g.S.Sink.failures c.put_all.new.self)
    (record { put = c.in-Err.ensures.put; counted = c.put_all.ensures.counted; failed = c.in-Err.ensures.failed }) noted
