use Rattle.std.proofs.Common.{◌≡◌, ap, ◌∙◌, arith, length-append, [], ◌∷◌}
use Rattle.left_right.specs.Sides.{view}
use Rattle.br_keeper.specs.Sessions.{known}
use Rattle.std.proofs.lemmas.List.Elements.{All-push}
use Rattle.br_keeper.proofs.publisher.open_sessions.Goals as goal

pub loop-count-preserved : goal.loop-count-preserved
loop-count-preserved c = let i = c.loop-count.invariant in let k = c.in_ok-session.ensures.kept in record {
  same = (k.0 ∙ i.same.0, k.1 ∙ i.same.1, k.2 ∙ i.same.2, k.3 ∙ i.same.3);
  know = rw c.push_reserved.ensures.items (All-push (λ s. s ≡ known c.args.front.now.book (view c.args.writer.now.desk.place).opening c.args.front.now.log) c.loop-count.list.items c.in_ok-session.session i.know
      (c.in_ok-session.ensures.ok ∙ ap (λ v. known c.args.front.now.book v.opening c.args.front.now.log) i.same.3));
  many = rw c.push_reserved.ensures.items (let m = i.many in omega (arith, m, length-append c.loop-count.list.items (c.in_ok-session.session ∷ [])));
  room = (let m = i.room.0 in let l = c.push_reserved.ensures.len in omega (arith, m, l), c.push_reserved.ensures.capacity ∙ i.room.1);
}
