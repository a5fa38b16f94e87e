use Rattle.std.proofs.Common.{ap, ◌∙◌, arith}
use Rattle.br_claim.proofs.Moves.{joins}
use Rattle.br_claim.proofs.claims.joined.Goals as goal

pub join_seat-requires : goal.join_seat-requires
join_seat-requires c = let t = c.requires.table in (
  t.1,
  ap (λ s. s.claims) c.seat.view_is ∙ c.requires.seat,
  ap (λ m. m.1) c.seat.invariant.knows,
  (let e = t.0 in omega (arith, e)),
  λ s h at apart there. joins c.args.table.now.shared.key c.args.own.now.id c.seat.inside.seat.id c.args.own.now.me.0 c.seat.inside.seat.me.0 s.words s.views t.3 h at apart there,
)
