use Rattle.std.proofs.Common.{◌≡◌, refl, ap, sym, ◌∙◌, arith, cond, [], ◌∷◌, length-append}
use Rattle.atomic_table.specs.Table.{keeps}
use Rattle.br_claim.proofs.Moves.{draws, has_turn, drew_hit, room_left, rises_on, under_on}
use Rattle.br_claim.proofs.word.ClaimWord.draw.Goals as goal

pub fetch_add-found-requires : goal.fetch_add-found-requires
fetch_add-found-requires c = let k = c.seat.invariant.knows in let me = c.seat.inside.seat.me.0 in let e = ap (λ m. m.0) k in (
  ap (λ s. s.claims) c.seat.view_is ∙ c.requires ∙ sym (ap (λ s. s.claims) c.self.view_is),
  (let e = c.self.invariant.words in omega (arith, e)),
  λ s h len at fit. let d = draws c.self.inside.table.shared.key c.seat.inside.seat.id me s.words s.views (let l = ap (λ v. v.limit) e in omega (arith, l))
      (has_turn c.seat.inside.limit c.seat.inside.drawn.items c.seat.inside.ended me e c.if-seat.false) h at in (d.0, keeps, tt, d.1, (d.2, refl)),
)

pub push_reserved-requires : goal.push_reserved-requires
push_reserved-requires c = let i = c.seat.inside in let inv = c.seat.invariant in
    let d = drew_hit i.limit c.fetch_add-found.result (cond i.ended 1 0) i.drawn.items i.seat.me.0 c.fetch_add-found.new.seat.me.0 (ap (λ m. m.0) inv.knows) (omega arith) c.fetch_add-found.ensures.2.0 in
    let l = room_left i.limit c.fetch_add-found.result i.drawn.items inv.rises inv.under d.1 (omega arith) in let r = inv.room in omega (arith, l, r)

pub invariant_of-seat-2 : goal.invariant_of-seat-2
invariant_of-seat-2 c = let i = c.seat.inside in let inv = c.seat.invariant in
    let d = drew_hit i.limit c.fetch_add-found.result (cond i.ended 1 0) i.drawn.items i.seat.me.0 c.fetch_add-found.new.seat.me.0 (ap (λ m. m.0) inv.knows) (omega arith) c.fetch_add-found.ensures.2.0 in record {
      knows = rw c.push_reserved.ensures.items (let carried : c.fetch_add-found.new.seat.me.1 ≡ [] = c.fetch_add-found.ensures.2.1 ∙ ap (λ m. m.1) inv.knows in λ k. (d.0 k, carried k));
      room = let r = inv.room in let e = c.push_reserved.ensures.capacity in omega (arith, r, e);
      rises = rw c.push_reserved.ensures.items (rises_on c.fetch_add-found.result i.drawn.items inv.rises d.1);
      under = rw c.push_reserved.ensures.items (under_on i.limit c.fetch_add-found.result i.drawn.items inv.under (omega arith));
    }

pub returns-clause-few : goal.returns-clause-few
returns-clause-few c = let i = c.seat.inside in let inv = c.seat.invariant in
    let d = drew_hit i.limit c.fetch_add-found.result (cond i.ended 1 0) i.drawn.items i.seat.me.0 c.fetch_add-found.new.seat.me.0 (ap (λ m. m.0) inv.knows) (omega arith) c.fetch_add-found.ensures.2.0 in
    let l = room_left i.limit c.fetch_add-found.result i.drawn.items inv.rises inv.under d.1 (omega arith) in rw c.push_reserved.ensures.items (omega (arith, l, length-append i.drawn.items (c.fetch_add-found.result ∷ [])))
