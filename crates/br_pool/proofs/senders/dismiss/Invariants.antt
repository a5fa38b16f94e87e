use Rattle.std.proofs.Common.{◌≡◌, ◌≤◌, ◌+◌, ◌++◌, [], map, reverse, true, vec_len, vec_capacity}
use Rattle.std.specs.List.{AllByRecursion}
use Rattle.crossbeam_queue.specs.Passes.{view}
use Rattle.br_pool.specs.Gathering.{Takes}
use Rattle.br_pool.specs.Gathers.{sent_of}
use Rattle.br_pool.specs.Outlets.{outlet_view}
use Rattle.br_pool.specs.Sending.{IsPassAt}
use Rattle.br_pool.specs.declared.sender.Sender.{Sender}
use Rattle.br_pool.proofs.senders.dismiss.Given as goal

-- what was taken in and what is left are all
abbrev pub invariant-loop-senders : goal.invariant-loop-senders
invariant-loop-senders g l = record {
  pass : (l.pass.table_id ≡ l.line.table.shared.table_id) × (l.pass.me.1 ≡ []);
  gathers : (view l.pass).gathers ≡ (view l.fn.pass).gathers;
  parts : (view l.pass).parts + vec_len l.senders ≡ (view l.fn.pass).parts + vec_len l.fn.senders;
  pushed : (view l.pass).pushed ++ sent_of l.senders.items ≡ (view l.fn.pass).pushed ++ sent_of l.fn.senders.items;
  took : Takes (l.fine ≡ true) (view l.fn.pass) (view l.pass) l.fn.joiner l.joiner;
  passes : AllByRecursion (λ (s : Sender g.row.D.Denot). IsPassAt l.line.table.shared.table_id s.outlet.pass × ((outlet_view s.outlet).parts ≡ 1)) l.senders.items;
  workers : l.workers.items ++ reverse (map (λ (s : Sender g.row.D.Denot). s.worker) l.senders.items) ≡ reverse (map (λ (s : Sender g.row.D.Denot). s.worker) l.fn.senders.items);
  room : vec_len l.workers + vec_len l.senders ≤ vec_capacity l.workers;
}

abbrev pub decreases-loop-senders : goal.decreases-loop-senders
decreases-loop-senders g l = vec_len l.senders
