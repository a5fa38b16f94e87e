use Rattle.std.proofs.Common.{◌≡◌, ◌≤◌, ◌+◌, ◌++◌, [], map, reverse, vec_len, vec_capacity}
use Rattle.std.specs.List.{AllByRecursion}
use Rattle.crossbeam_queue.specs.Passes.{view}
use Rattle.br_pool.specs.Crew.{hired}
use Rattle.br_pool.specs.Gathers.{HasHired}
use Rattle.br_pool.specs.Outlets.{outlet_view}
use Rattle.br_pool.specs.Sending.{IsPassAt}
use Rattle.br_pool.specs.declared.sender.Sender.{Sender}
use Rattle.br_pool.proofs.senders.hire.Given as goal

-- the workers that are left and those of the senders are all
abbrev pub invariant-loop-workers : goal.invariant-loop-workers
invariant-loop-workers g l = record {
  pass : (l.pass.table_id ≡ l.line.table.shared.table_id) × (l.pass.me.1 ≡ []);
  fewer : HasHired (vec_len l.senders) (view l.fn.pass) (view l.pass);
  workers : l.workers.items ++ reverse (map (λ (s : Sender g.row.D.Denot). s.worker) l.senders.items) ≡ l.fn.workers.items;
  hired : AllByRecursion (λ (s : Sender g.row.D.Denot). IsPassAt l.line.table.shared.table_id s.outlet.pass × (outlet_view s.outlet ≡ hired)) l.senders.items;
  many : vec_len l.workers + vec_len l.senders ≡ vec_len l.fn.workers;
  senders_room : vec_len l.workers + vec_len l.senders ≤ vec_capacity l.senders;
  room : vec_capacity l.workers ≡ vec_capacity l.fn.workers;
}

abbrev pub decreases-loop-workers : goal.decreases-loop-workers
decreases-loop-workers g l = vec_len l.workers
