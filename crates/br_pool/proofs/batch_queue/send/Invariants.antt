use Rattle.std.proofs.Common.{◌≡◌, []}
use Rattle.crossbeam_queue.specs.Passes.{view}
use Rattle.br_pool.proofs.batch_queue.send.Given as goal

-- the batch was not taken yet, and the pass knows nothing new
abbrev pub invariant-loop : goal.invariant-loop
invariant-loop g l = record {
  batch : l.waiting ≡ l.fn.batch;
  pass : (l.pass.table_id ≡ l.line.table.shared.table_id) × (l.pass.me.1 ≡ []);
  same : view l.pass ≡ view l.initial.pass;
}
