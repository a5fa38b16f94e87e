use Rattle.std.proofs.Common.{◌≡◌, ◌≤◌, length, take}
use Rattle.br_sink.specs.Delivery.{items_in}
use Rattle.br_sink.specs.Sink.{HasMore}
use Rattle.br_sink.proofs.sink.Sink.put_all.Given as goal

-- the files of the outcomes so far are counted, and the sink has them
abbrev pub invariant-loop-outcome : goal.invariant-loop-outcome
invariant-loop-outcome g l =
    let items = items_in (take l.outcome-index l.outcomes) in
    record {
      done : l.done ≡ length items;
      few : l.done ≤ l.outcome-index;
      put : HasMore items (g.Self.Sink.has l.initial.self) (g.Self.Sink.has l.self);
      counted : g.Self.Sink.failures l.initial.self ≤ g.Self.Sink.failures l.self;
    }
