use Rattle.std.proofs.Common.{◌≡◌, ◌++◌, map}
use Rattle.br_core.specs.Happening.{event_of, reply_of}
use Rattle.br_core.specs.Machine.{IsRun}
use Rattle.br_core.proofs.machine_runs.replies_to.Given as goal

-- the events so far and those that are left are all, and the machine ran over those so far
abbrev pub invariant-loop-event : goal.invariant-loop-event
invariant-loop-event g l = record {
  walk : l.yielded ++ l.event-iterator.rest.items ≡ l.fn.events.items;
  run : IsRun l.fn.world (map event_of l.yielded) (map reply_of l.replies.items) l.world;
}
