use Rattle.std.proofs.Common.{◌≡◌, ◌++◌, map, reverse, ap, sym, subst, ◌∙◌, arith}
use Rattle.br_pool.specs.Crew.{hired}
use Rattle.br_pool.specs.Outlets.{outlet_view}
use Rattle.br_pool.specs.Sending.{IsPassAt}
use Rattle.br_pool.specs.declared.batch_queue.Crew.{Crew}
use Rattle.br_pool.specs.declared.sender.Sender.{Sender}
use Rattle.br_pool.proofs.ListLaws.{all_more, moved_back, turned_more}
use Rattle.br_pool.proofs.senders.hire.Goals as goal

-- a part is left while a worker is
pub pass_for_worker-own-requires-clause-parts : goal.pass_for_worker-own-requires-clause-parts
pass_for_worker-own-requires-clause-parts g c = let i = c.loop-workers.invariant in
    let a = i.fewer.1 in let b = i.many in let d = c.requires.parts in let e = c.args.workers.now.ok.0 in let f = c.take_last-worker.ensures.len in omega (arith, a, b, d, e, f)

pub loop-workers-preserved : goal.loop-workers-preserved
loop-workers-preserved g c = let i = c.loop-workers.invariant in
    let pushed = c.push_reserved.ensures in
    let taken = c.take_last-worker.ensures in
    let own = c.pass_for_worker-own.ensures in
    let senders = c.loop-workers.senders.items in record {
      pass = own.passes.0;
      fewer = (
        ap (λ (v : Crew). v.gathers) own.left ∙ i.fewer.0,
        (let a = ap (λ (v : Crew). v.parts) own.left in let b = i.fewer.1 in let d = i.many in let e = taken.len in let f = c.requires.parts in let k = pushed.len in omega (arith, a, b, d, e, f, k)),
        ap (λ (v : Crew). v.pushed) own.left ∙ i.fewer.2,
        ap (λ (v : Crew). v.popped) own.left ∙ i.fewer.3,
      );
      workers =
          rw pushed.items
          (ap (λ l. c.take_last-worker.new.self.items ++ l) (turned_more (λ (s : Sender g.row.D.Denot). s.worker) senders _)
          ∙ moved_back c.take_last-worker.new.self.items c.take_last-worker.result (reverse (map (λ (s : Sender g.row.D.Denot). s.worker) senders)) c.loop-workers.workers.items c.args.workers.now.items taken.items i.workers);
      hired = rw pushed.items (all_more (λ (s : Sender g.row.D.Denot). IsPassAt c.args.line.now.table.shared.table_id s.outlet.pass × (outlet_view s.outlet ≡ hired)) senders _ i.hired (subst (IsPassAt c.args.line.now.table.shared.table_id) (sym c.new-outlet.ensures.pass) own.passes.1, c.new-outlet.ensures.shown ∙ own.first));
      many = let a = i.many in let b = taken.len in let d = pushed.len in omega (arith, a, b, d);
      senders_room = let a = i.senders_room in let b = taken.len in let d = pushed.len in let e = pushed.capacity in omega (arith, a, b, d, e);
      room = taken.capacity ∙ i.room;
    }
