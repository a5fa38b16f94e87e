use Rattle.std.proofs.Common.{◌≡◌, ◌≤◌, ◌-◌, length}
use Rattle.br_store.specs.Moments.{IsBegun}
use Rattle.br_store.proofs.look_file.read_all.Given as goal

abbrev pub invariant-loop-source : goal.invariant-loop-source
invariant-loop-source g l = record {
  begun : IsBegun (g.O.Sight.told l.initial.sight) l.source (g.O.Sight.moment l.initial.sight) (g.O.Sight.moment l.sight) l.bytes.items;
  same : g.O.Sight.told l.sight ≡ g.O.Sight.told l.initial.sight;
  later : g.O.Sight.moment l.initial.sight ≤ g.O.Sight.moment l.sight;
}

abbrev pub decreases-loop-source : goal.decreases-loop-source
decreases-loop-source g l = l.len - length l.bytes.items
