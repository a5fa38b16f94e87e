use Rattle.std.proofs.Common.{◌++◌, map, reverse, refl, ap, sym, ◌∙◌, append_assoc, arith}
use Rattle.br_pool.proofs.ListLaws.{turned_more, moved_back, zip_more}
use Rattle.br_pool.proofs.workers.into_workers.Goals as goal

pub loop-share-preserved : goal.loop-share-preserved
loop-share-preserved g c = let i = c.loop-share.invariant in
    let pushed = c.push_reserved.ensures in
    let taken = c.take_last.ensures in record {
      walk = rw append_assoc (ap (λ l. c.loop-share.yielded ++ l) (sym c.in-Some.ensures.steps.0) ∙ i.walk);
      given = rw pushed.items (zip_more _ c.loop-share.yielded c.loop-share.workers.items c.in-Some.share _ i.given (refl, refl));
      readers =
          rw pushed.items
          (ap (λ l. c.take_last.new.self.items ++ l) (turned_more (λ w. w.reader) c.loop-share.workers.items _)
          ∙ moved_back c.take_last.new.self.items c.take_last.result (reverse (map (λ w. w.reader) c.loop-share.workers.items)) c.loop-share.readers.items c.args.readers.now.items taken.items i.readers);
      left = let a = i.left in let b = c.in-Some.ensures.steps.1 in let d = taken.len in omega (arith, a, b, d);
      count = let a = i.count in let b = c.in-Some.ensures.steps.1 in let d = pushed.len in omega (arith, a, b, d);
      room = pushed.capacity ∙ i.room;
      readers_room = taken.capacity ∙ i.readers_room;
    }
