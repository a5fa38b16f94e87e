use Rattle.std.proofs.Common.{◌≡◌, [], true}
use Rattle.crossbeam_queue.specs.Passes.{view}
use Rattle.br_pool.specs.Gathering.{IsStill, Takes}
use Rattle.br_pool.proofs.gathering.push_or_take.Given as goal

-- the batch was not pushed yet, and others were taken
abbrev pub invariant-loop : goal.invariant-loop
invariant-loop g l = record {
  batch : l.waiting ≡ l.fn.batch;
  pass : (l.pass.table_id ≡ l.line.table.shared.table_id) × (l.pass.me.1 ≡ []);
  own : (l.own.table_id ≡ l.line.table.shared.table_id) × (l.own.me.1 ≡ []);
  unsent : view l.own ≡ view l.fn.own;
  same : IsStill (view l.fn.pass) (view l.pass);
  took : Takes (l.fine ≡ true) (view l.fn.pass) (view l.pass) l.fn.joiner l.joiner;
}
