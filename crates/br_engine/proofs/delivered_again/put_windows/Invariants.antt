use Rattle.std.proofs.Common.{◌≡◌, ◌≤◌, ◌-◌, Ok, length, map, take}
use Rattle.br_join.specs.Outcome.{restored}
use Rattle.br_data.specs.ManyDrives.{GoOn}
use Rattle.br_sink.specs.Delivery.{items_in}
use Rattle.br_engine.specs.DeliveredAgain.{CanMake, PutsLike}
use Rattle.br_engine.proofs.delivered_again.put_windows.Given as goal

-- the files of the outcomes so far are counted, and were put
abbrev pub invariant-loop-place : goal.invariant-loop-place
invariant-loop-place g l =
    let items = items_in (take l.place l.outcomes) in
    record {
      done : l.done ≡ length items;
      few : l.done ≤ l.place;
      within : l.place ≤ length l.outcomes;
      put :
          PutsLike {A = Unit {0}} (CanMake l.initial.many l.source.gathered.now (map restored l.outcomes)) items (g.S.Sink.has l.initial.sink) (g.S.Sink.has l.sink)
          (Ok tt);
      on : GoOn l.initial.many l.many;
      counted : g.S.Sink.failures l.initial.sink ≤ g.S.Sink.failures l.sink;
    }

-- the outcomes that are left
abbrev pub decreases-loop-place : goal.decreases-loop-place
decreases-loop-place g l = length l.outcomes - l.place
