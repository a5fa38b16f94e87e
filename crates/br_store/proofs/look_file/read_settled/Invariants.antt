use Rattle.std.proofs.Common.{◌≡◌, ◌≤◌}
use Rattle.br_store.proofs.look_file.read_settled.Given as goal

abbrev pub invariant-loop : goal.invariant-loop
invariant-loop g l = record {
  same : g.O.Sight.told l.sight ≡ g.O.Sight.told l.initial.sight;
  later : g.O.Sight.moment l.initial.sight ≤ g.O.Sight.moment l.sight;
}
