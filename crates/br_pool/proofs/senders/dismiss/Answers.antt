use Rattle.std.proofs.Common.{◌≡◌, ◌++◌, true, List, length, map, reverse, refl, ap, subst, ◌∙◌, arith}
use Rattle.std.proofs.lemmas.Bool.{and_parts}
use Rattle.std.specs.List.{AllByRecursion}
use Rattle.std.specs.Prelude.{◌&&◌, IsTrue}
use Rattle.crossbeam_queue.specs.Passes.{view}
use Rattle.br_pool.specs.Outlets.{outlet_view}
use Rattle.br_pool.specs.Sending.{IsPassAt}
use Rattle.br_pool.specs.declared.batch_queue.Crew.{Crew}
use Rattle.br_pool.specs.declared.sender.Sender.{Sender}
use Rattle.br_pool.specs.declared.worker.Worker.{Worker}
use Rattle.br_pool.proofs.BackLaws.{back_more, batches_more}
use Rattle.br_pool.proofs.GatheringLaws.{takes_into, takes_none, takes_on}
use Rattle.br_pool.proofs.ListLaws.{all_but_last}
use Rattle.br_pool.proofs.senders.dismiss.Goals as goal

pub loop-senders-init : goal.loop-senders-init
loop-senders-init g c = record {
  pass = c.requires.pass;
  gathers = refl;
  parts = refl;
  pushed = refl;
  took = takes_none _ (view c.args.pass.now) (view c.args.pass.now) c.args.joiner.now c.args.joiner.now refl refl;
  passes = c.requires.passes;
  workers = ap (λ (l : List (Worker g.row.D.Denot)). l ++ reverse (map (λ (s : Sender g.row.D.Denot). s.worker) c.args.senders.items)) c.requires.none;
  room = (let a = c.requires.room in let b = c.requires.none in let d = c.args.senders.ok.0 in let e = c.args.workers.now.ok.0 in omega (arith, a, ap length b, d, e));
}

-- the batches that the last sender keeps
pub give_kept-fine-requires-clause-passes : goal.give_kept-fine-requires-clause-passes
give_kept-fine-requires-clause-passes g c =
    let P : Sender g.row.D.Denot → Type 0 = λ s. IsPassAt c.args.line.now.table.shared.table_id s.outlet.pass × ((outlet_view s.outlet).parts ≡ 1) in
    (c.loop-senders.invariant.pass, (all_but_last P c.take_last-worker.new.self.items c.take_last-worker.result (subst (λ (l : List (Sender g.row.D.Denot)). AllByRecursion P l) c.take_last-worker.ensures.items c.loop-senders.invariant.passes)).1.0)

pub give_kept-fine-requires-clause-gathers : goal.give_kept-fine-requires-clause-gathers
give_kept-fine-requires-clause-gathers g c = c.loop-senders.invariant.gathers ∙ c.requires.gathers

pub give_kept-fine-requires-clause-part : goal.give_kept-fine-requires-clause-part
give_kept-fine-requires-clause-part g c =
    let P : Sender g.row.D.Denot → Type 0 = λ s. IsPassAt c.args.line.now.table.shared.table_id s.outlet.pass × ((outlet_view s.outlet).parts ≡ 1) in
    let one = (all_but_last P c.take_last-worker.new.self.items c.take_last-worker.result (subst (λ (l : List (Sender g.row.D.Denot)). AllByRecursion P l) c.take_last-worker.ensures.items c.loop-senders.invariant.passes)).1.1 in
    omega (arith, one)

pub loop-senders-preserved : goal.loop-senders-preserved
loop-senders-preserved g c = let i = c.loop-senders.invariant in
    let taken = c.take_last-worker.ensures in
    let s : Sender g.row.D.Denot = c.take_last-worker.result in
    let new = c.take_last-worker.new.self.items in
    let back = c.push_reserved.ensures in
    let give = c.give_kept-fine.ensures in
    let into = c.take_in.ensures in
    let P : Sender g.row.D.Denot → Type 0 = λ s. IsPassAt c.args.line.now.table.shared.table_id s.outlet.pass × ((outlet_view s.outlet).parts ≡ 1) in
    let left = all_but_last P new s (subst (λ (l : List (Sender g.row.D.Denot)). AllByRecursion P l) taken.items i.passes) in record {
      pass = into.pass;
      gathers = ap (λ (v : Crew). v.gathers) into.taken ∙ give.still.0 ∙ i.gathers;
      parts = let a = ap (λ (v : Crew). v.parts) into.taken in let b = left.1.1 in let d = i.parts in let e = taken.len in let f = give.still.1 in let k = ap (λ (v : Crew). v.parts) give.sent in omega (arith, a, b, d, e, f, k);
      pushed = batches_more (λ (s : Sender g.row.D.Denot). (outlet_view s.outlet).pushed) (view c.loop-senders.pass).pushed (view c.take_in.new.pass).pushed _ new c.loop-senders.senders.items s taken.items
          (ap (λ (v : Crew). v.pushed) into.taken ∙ ap (λ l. l ++ (view c.give_kept-fine.new.own).pushed) give.still.2 ∙ ap (λ (v : Crew). (view c.loop-senders.pass).pushed ++ v.pushed) give.sent) i.pushed;
      took = takes_on (c.loop-senders.fine ≡ true) (IsTrue c.give_kept-fine.result) (IsTrue (c.loop-senders.fine && c.give_kept-fine.result)) (view c.args.pass.now) (view c.loop-senders.pass) (view c.take_in.new.pass)
          c.args.joiner.now c.loop-senders.joiner c.give_kept-fine.new.joiner (λ e. (and_parts c.loop-senders.fine c.give_kept-fine.result e).0) (λ e. (and_parts c.loop-senders.fine c.give_kept-fine.result e).1) i.took
          (takes_into _ (view c.loop-senders.pass) (view c.give_kept-fine.new.pass) (view c.take_in.new.pass) c.loop-senders.joiner c.give_kept-fine.new.joiner (ap (λ (v : Crew). v.popped) into.taken) give.took);
      passes = left.0;
      workers = back_more (λ (s : Sender g.row.D.Denot). s.worker) c.loop-senders.workers.items c.push_reserved.new.self.items _ new c.loop-senders.senders.items s taken.items back.items i.workers;
      room = let a = back.len in let b = back.capacity in let d = taken.len in let e = i.room in omega (arith, a, b, d, e);
    }
