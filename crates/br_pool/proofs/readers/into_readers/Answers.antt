use Rattle.std.proofs.Common.{◌≡◌, ◌++◌, false, map, reverse, refl, ap, ◌∙◌, arith}
use Rattle.br_pool.specs.declared.worker.Reader.{Reader}
use Rattle.br_pool.proofs.ListLaws.{all_more, moved_back, turned_more}
use Rattle.br_pool.proofs.readers.into_readers.Goals as goal

pub loop-readers-preserved : goal.loop-readers-preserved
loop-readers-preserved g c = let i = c.loop-readers.invariant in
    let pushed = c.push_reserved.ensures in
    let taken = c.take_last.ensures in
    let readers = c.loop-readers.readers.items in record {
      drives =
          rw pushed.items
          (ap (λ l. c.take_last.new.self.items ++ l) (turned_more (λ (r : Reader g.row.D.Denot). r.drive) readers _)
          ∙ moved_back c.take_last.new.self.items c.take_last.result (reverse (map (λ (r : Reader g.row.D.Denot). r.drive) readers)) c.loop-readers.drives.items c.args.drives.now.items taken.items i.drives);
      fresh = rw pushed.items (all_more (λ (r : Reader g.row.D.Denot). r.out ≡ false) readers _ i.fresh refl);
      many = let a = i.many in let b = taken.len in let d = pushed.len in omega (arith, a, b, d);
      readers_room = let a = i.readers_room in let b = taken.len in let d = pushed.len in let e = pushed.capacity in omega (arith, a, b, d, e);
      room = taken.capacity ∙ i.room;
    }
