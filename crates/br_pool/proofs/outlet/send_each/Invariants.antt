use Rattle.std.proofs.Common.{◌≡◌, []}
use Rattle.crossbeam_queue.specs.Passes.{view}
use Rattle.br_pool.specs.Gathering.{with_pushed}
use Rattle.br_pool.proofs.outlet.send_each.Given as goal

-- what was pushed and what is left are all
abbrev pub invariant-loop-batch : goal.invariant-loop-batch
invariant-loop-batch g l = record {
  pass : (l.pass.table_id ≡ l.line.table.shared.table_id) × (l.pass.me.1 ≡ []);
  sent : with_pushed (view l.pass) l.batch-iterator.rest.items ≡ with_pushed (view l.fn.pass) l.fn.batches.items;
}
