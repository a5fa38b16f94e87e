use Rattle.std.proofs.Common.{◌≡◌, refl, ap, sym, ◌∙◌, arith, subst, [], ◌∷◌, map, length-append, append_assoc, ◌++◌, rules}
use Rattle.std.proofs.lemmas.List.{map-append}
use Rattle.atomic_table.specs.Table.{keeps}
use Rattle.br_claim.specs.Claims.{AllOf, with_seat}
use Rattle.br_claim.proofs.Moves.{with_seats-limit, with_seats-snoc, looks, learns, all_parts, dealt, all_rise-snoc, none_left, drawn-snoc, all_of, dealt_as}
use Rattle.br_claim.proofs.claims.Claims.gather.Goals as goal

pub joined-requires-clause-table : goal.joined-requires-clause-table
joined-requires-clause-table c = let i = c.loop-seat.invariant in let s = c.self.invariant in let o = c.own_seat-own.ensures in let e = ap (λ m. m.0) i.own.1 in (
  c.word.invariant.words,
  i.own.0 ∙ o.0 ∙ sym (ap (λ v. v.claims) c.word.view_is),
  (let carried = ap (λ m. m.1) i.own.1 in λ k. (c.loop-seat.own.me.0, carried k)),
  ap (λ v. v.limit) e ∙ with_seats-limit c.own_seat-own.result.me.0 c.loop-seat.yielded ∙ ap (λ m. m.0.limit) o.1 ∙ sym (ap (λ v. v.limit) c.word.view_is) ∙ sym c.word.invariant.key,
)

pub joined-requires-clause-seat : goal.joined-requires-clause-seat
joined-requires-clause-seat c = let all = subst (λ l. AllOf c.own_seat-own.result.table_id l) c.in-Some.ensures.steps.0 c.loop-seat.invariant.rest in all.0 ∙ c.own_seat-own.ensures.0 ∙ sym (ap (λ v. v.claims) c.word.view_is)

pub loop-seat-init : goal.loop-seat-init
loop-seat-init c = record {
  own = (refl, search rules);
  lists = rw c.in-Ok.ensures.items refl;
  rises = tt;
  room = refl;
  count = search rules;
  walk = c.into_iter-seat-iterator.ensures.into_iter_gives.0;
  left = search rules;
  rest = all_of c.own_seat-own.result.table_id c.args.self.claims c.into_iter-seat-iterator.result.rest.items c.args.seats.items (c.own_seat-own.ensures.0 ∙ ap (λ k. k.claims) c.self.view_is) c.into_iter-seat-iterator.ensures.into_iter_gives.0 c.requires;
}

pub loop-seat-preserved : goal.loop-seat-preserved
loop-seat-preserved c = let i = c.loop-seat.invariant in record {
  own = (c.joined.ensures.own.0 ∙ i.own.0, c.joined.ensures.own.1 ∙ ap (λ m. (with_seat m.0 c.in-Some.seat, [])) i.own.1 ∙ ap (λ v. (v, [])) (sym (with_seats-snoc c.own_seat-own.result.me.0 c.loop-seat.yielded c.in-Some.seat)));
  lists = rw (c.push_reserved.ensures.items, map-append, drawn-snoc) (let a = i.lists in let b = c.joined.ensures.drawn.0 in cc);
  rises = rw drawn-snoc (all_rise-snoc (map (λ s. s.drawn) c.loop-seat.yielded) c.in-Some.seat.drawn i.rises c.joined.ensures.drawn.1);
  room = c.push_reserved.ensures.capacity ∙ i.room;
  count = let a = c.push_reserved.ensures.len in let b = i.count in omega (arith, a, b, length-append c.loop-seat.yielded (c.in-Some.seat ∷ []));
  walk = rw append_assoc (ap (λ l. c.loop-seat.yielded ++ l) (sym c.in-Some.ensures.steps.0) ∙ i.walk);
  left = let a = i.left in let b = c.in-Some.ensures.steps.1 in omega (arith, a, b, length-append c.loop-seat.yielded (c.in-Some.seat ∷ []));
  rest = (subst (λ l. AllOf c.own_seat-own.result.table_id l) c.in-Some.ensures.steps.0 i.rest).1;
}

pub load-requires : goal.load-requires
load-requires c = let i = c.loop-seat.invariant in let s = c.self.invariant in let o = c.own_seat-own.ensures in let e = ap (λ m. m.0) i.own.1 in (
  i.own.0 ∙ o.0 ∙ sym (ap (λ v. v.claims) c.word.view_is),
  (let w = c.word.invariant.words in omega (arith, w)),
  λ t h len at fit. (
    c.loop-seat.own.me.0,
    keeps,
    tt,
    looks c.word.inside.table.shared.key c.loop-seat.own.id c.loop-seat.own.me.0 t.words t.views h at,
    (
      refl,
      learns c.word.inside.table.shared.key c.loop-seat.own.id c.loop-seat.own.me.0 t.words t.views
          (all_parts c.self.inside.word.limit c.self.inside.made c.own_seat-own.result.me.0 c.loop-seat.own.me.0 c.loop-seat.yielded (ap (λ m. m.0) o.1) s.made (let a = i.left in let b = c.in-None.ensures.steps.0 in let d = c.if-len-self.false in let l = c.len.ensures in omega (arith, a, b, d, l)) e)
          (ap (λ v. v.limit) e ∙ with_seats-limit c.own_seat-own.result.me.0 c.loop-seat.yielded ∙ ap (λ m. m.0.limit) o.1 ∙ sym (ap (λ v. v.limit) c.word.view_is) ∙ sym c.word.invariant.key) h at,
    ),
  ),
)

pub returns-clause-lists : goal.returns-clause-lists
returns-clause-lists c = let i = c.loop-seat.invariant in
    let all : c.loop-seat.yielded ≡ c.args.seats.items = none_left c.loop-seat.yielded c.loop-seat.seat-iterator.rest.items c.args.seats.items i.walk
    (let a = i.left in let b = c.in-None.ensures.steps.0 in let o = c.args.seats.ok in omega (arith, a, b, o)) in
    i.lists ∙ ap (λ l. map (λ s. s.drawn) l) all

pub returns-clause-dealt : goal.returns-clause-dealt
returns-clause-dealt c = let i = c.loop-seat.invariant in let s = c.self.invariant in let o = c.own_seat-own.ensures in
    let all : c.loop-seat.yielded ≡ c.args.seats.items = none_left c.loop-seat.yielded c.loop-seat.seat-iterator.rest.items c.args.seats.items i.walk
    (let a = i.left in let b = c.in-None.ensures.steps.0 in let o = c.args.seats.ok in omega (arith, a, b, o)) in
    let l : c.self.inside.word.limit ≡ c.args.self.limit = ap (λ k. k.limit) c.self.view_is in
    let d = dealt c.self.inside.word.limit c.self.inside.made c.own_seat-own.result.me.0 c.loop-seat.own.me.0 c.loop-seat.yielded (map (λ v. v.items) c.loop-seat.lists.items)
    (ap (λ m. m.0) o.1) (ap (λ m. m.0) i.own.1) c.load.ensures.2.1 i.lists i.rises in
    dealt_as _ _ _ _ _ l all d
