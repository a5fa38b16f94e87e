use Rattle.std.proofs.Common.{◌≡◌, ◌≤◌, ◌-◌, length, take}
use Rattle.br_sink.specs.Delivery.{items_in}
use Rattle.br_sink.specs.Sink.{HasMore}
use Rattle.br_cli_progress.proofs.watched_sink.put_runs.Given as goal

-- the files of the outcomes so far are counted, and were put
abbrev pub invariant-loop-place : goal.invariant-loop-place
invariant-loop-place g l =
    let items = items_in (take l.place l.outcomes) in
    record {
      done : l.done ≡ length items;
      few : l.done ≤ l.place;
      within : l.place ≤ length l.outcomes;
      put : HasMore items (g.S.Sink.has l.initial.sink) (g.S.Sink.has l.sink);
      counted : g.S.Sink.failures l.initial.sink ≤ g.S.Sink.failures l.sink;
    }

-- the outcomes that are left
abbrev pub decreases-loop-place : goal.decreases-loop-place
decreases-loop-place g l = length l.outcomes - l.place
