use Rattle.std.proofs.Common.{Some}
use Rattle.br_sink.specs.TwoParts.{two_put}
use Rattle.br_sink.proofs.LeavingLaws.{notes_more}
use Rattle.br_sink.proofs.keep_going_delivery.put_two_noted.Goals as goal

pub returns-in-Some-clause-noted : goal.returns-in-Some-clause-noted
returns-in-Some-clause-noted g c = λ start noted.
    notes_more start (g.S.Sink.has c.args.sink.now) (g.S.Sink.has c.put_two.new.self) (g.S.Sink.failures c.args.sink.now) (g.S.Sink.failures c.put_two.new.self)
    c.args.noted.now c.take_two.new.self (two_put c.args.one.now c.args.other.now (Some c.in-Some.put)) noted c.in-Some.ensures.put c.put_two.ensures.counted
    c.take_two.ensures
