use Rattle.std.proofs.Common.{◌≡◌, [], true}
use Rattle.crossbeam_queue.specs.Passes.{view}
use Rattle.br_pool.specs.Gathering.{IsStill, Takes, with_pushed}
use Rattle.br_pool.proofs.gathering.give_kept.Given as goal

-- what was pushed and what is left are all that was kept
abbrev pub invariant-loop-batch : goal.invariant-loop-batch
invariant-loop-batch g l = record {
  pass : (l.pass.table_id ≡ l.line.table.shared.table_id) × (l.pass.me.1 ≡ []);
  own : (l.own.table_id ≡ l.line.table.shared.table_id) × (l.own.me.1 ≡ []);
  sent : with_pushed (view l.own) l.batch-iterator.rest.items ≡ with_pushed (view l.fn.own) l.fn.kept.items;
  same : IsStill (view l.fn.pass) (view l.pass);
  took : Takes (l.fine ≡ true) (view l.fn.pass) (view l.pass) l.fn.joiner l.joiner;
}
