use Rattle.std.proofs.Common.{◌≡◌, ◌≤◌, ◌-◌, ◌++◌, length, take}
use Rattle.br_types.specs.declared.wanted.Stops.TheVariants.{AtFirst}
use Rattle.br_sink.specs.Delivery.{items_in}
use Rattle.br_sink.specs.KeepGoing.{StaysNoted}
use Rattle.br_sink.proofs.keep_going_delivery.put_each.Given as goal

-- the files of the outcomes so far were taken
abbrev pub invariant-loop-place : goal.invariant-loop-place
invariant-loop-place g l = record {
  within : l.place ≤ length l.outcomes;
  taken : l.noted.taken.items ≡ l.initial.noted.taken.items ++ items_in (take l.place l.outcomes);
  noted : StaysNoted g.S.Sink.has g.S.Sink.failures l.initial.sink l.sink l.initial.noted l.noted;
  kept : l.stops ≡ AtFirst → l.noted.left.items ≡ l.initial.noted.left.items;
  counted : g.S.Sink.failures l.initial.sink ≤ g.S.Sink.failures l.sink;
}

-- the outcomes that are left
abbrev pub decreases-loop-place : goal.decreases-loop-place
decreases-loop-place g l = length l.outcomes - l.place
