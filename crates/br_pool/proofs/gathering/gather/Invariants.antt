use Rattle.std.proofs.Common.{◌≡◌, [], true}
use Rattle.crossbeam_queue.specs.Passes.{view}
use Rattle.br_pool.specs.Gathering.{IsStill, Takes}
use Rattle.br_pool.proofs.gathering.gather.Given as goal

abbrev pub invariant-loop : goal.invariant-loop
invariant-loop g l = record {
  pass : (l.pass.table_id ≡ l.line.table.shared.table_id) × (l.pass.me.1 ≡ []);
  same : IsStill (view l.fn.pass) (view l.pass);
  took : Takes (l.fine ≡ true) (view l.fn.pass) (view l.pass) l.fn.joiner l.joiner;
}
