use Rattle.std.proofs.Common.{◌∙◌, List, length, ap, subst, arith}
use Rattle.std.specs.List.{AllByRecursion}
use Rattle.br_pool.specs.Slots.{AllBelow}
use Rattle.br_pool.specs.declared.worker.Worker.{Worker}
use Rattle.br_pool.proofs.ListLaws.{all_but_last}
use Rattle.br_pool.proofs.SlotLaws.{length_with_each}
use Rattle.br_pool.proofs.BackLaws.{back_more, slots_more}
use Rattle.br_pool.proofs.workers.out_of_workers.Goals as goal

pub loop-workers-preserved : goal.loop-workers-preserved
loop-workers-preserved g c = let i = c.loop-workers.invariant in
    let taken = c.take_last-reader.ensures in
    let w : Worker g.row.D.Denot = c.take_last-reader.result in
    let new = c.take_last-reader.new.self.items in
    let back = c.push_reserved.ensures in
    let seats = c.push_reserved-in-loop-workers.ensures in
    let P : Worker g.row.D.Denot → Type 0 = λ w. AllBelow (length c.args.slots.now) w.answers.items in record {
      readers = back_more (λ (w : Worker g.row.D.Denot). w.reader) c.loop-workers.readers.items c.push_reserved.new.self.items _ new c.loop-workers.workers.items w taken.items back.items i.readers;
      seats = back_more (λ (w : Worker g.row.D.Denot). w.seat) c.loop-workers.seats.items c.push_reserved-in-loop-workers.new.self.items _ new c.loop-workers.workers.items w taken.items seats.items i.seats;
      slots = slots_more (λ (w : Worker g.row.D.Denot). w.answers.items) c.loop-workers.slots c.fill.new.slots _ new c.loop-workers.workers.items w taken.items c.fill.ensures i.slots;
      below = (all_but_last P new w (subst (λ (l : List (Worker g.row.D.Denot)). AllByRecursion P l) taken.items i.below)).0;
      long = ap length c.fill.ensures ∙ length_with_each c.loop-workers.slots w.answers.items ∙ i.long;
      readers_room = let a = back.len in let b = back.capacity in let d = taken.len in let e = i.readers_room in omega (arith, a, b, d, e);
      seats_room = let a = seats.len in let b = seats.capacity in let d = taken.len in let e = i.seats_room in omega (arith, a, b, d, e);
    }
