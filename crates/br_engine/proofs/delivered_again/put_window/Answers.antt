use Rattle.br_engine.proofs.StopLaws.{changed_two_window, changed_window, puts_two_window, puts_window, stops_two_window, stops_window}
use Rattle.br_engine.proofs.delivered_again.put_window.Goals as goal

pub returns-in-Alone-clause-put : goal.returns-in-Alone-clause-put
returns-in-Alone-clause-put g c =
    let key = c.in-Alone.alone.key in
    let item = c.in-Alone.alone.item.now in
    puts_window c.args.many.now c.args.source.now.gathered.now key item c.args.window.now (g.S.Sink.has c.args.sink.now) (g.S.Sink.has c.put_alone.new.sink) c.put_alone.result
    c.in-Alone.ensures c.put_alone.ensures.put

pub returns-in-Alone-clause-stopped : goal.returns-in-Alone-clause-stopped
returns-in-Alone-clause-stopped g c =
    stops_window c.in-Alone.alone.key c.in-Alone.alone.item.now c.args.window.now c.put_alone.result c.in-Alone.ensures c.put_alone.ensures.stopped

pub returns-in-Two-clause-put : goal.returns-in-Two-clause-put
returns-in-Two-clause-put g c =
    puts_two_window c.args.many.now c.args.source.now.gathered.now c.in-Two.one c.in-Two.other c.args.window.now (g.S.Sink.has c.args.sink.now)
    (g.S.Sink.has c.put_two_alone.new.sink) c.put_two_alone.result c.in-Two.ensures c.put_two_alone.ensures.put

pub returns-in-Two-clause-stopped : goal.returns-in-Two-clause-stopped
returns-in-Two-clause-stopped g c =
    stops_two_window c.in-Two.one c.in-Two.other c.args.window.now c.put_two_alone.result c.in-Two.ensures c.put_two_alone.ensures.stopped

pub returns-in-Alone-clause-changed : goal.returns-in-Alone-clause-changed
returns-in-Alone-clause-changed g c =
    changed_window c.args.many.now c.args.source.now.gathered.now c.in-Alone.alone.key c.in-Alone.alone.item.now c.args.window.now c.put_alone.result c.in-Alone.ensures
    c.put_alone.ensures.changed

pub returns-in-Two-clause-changed : goal.returns-in-Two-clause-changed
returns-in-Two-clause-changed g c =
    changed_two_window c.args.many.now c.args.source.now.gathered.now c.in-Two.one c.in-Two.other c.args.window.now c.put_two_alone.result c.in-Two.ensures
    c.put_two_alone.ensures.changed
