use Rattle.std.proofs.Common.{ap, sym, ◌∙◌, arith}
use Rattle.br_claim.proofs.Moves.{splits_as}
use Rattle.br_claim.proofs.word.ClaimWord.split.Goals as goal

pub split_seat-requires : goal.split_seat-requires
split_seat-requires c = let i = c.self.inside in let own = c.args.own.now in (
  c.requires.own.0 ∙ sym (ap (λ v. v.claims) c.self.view_is),
  (let e = c.self.invariant.words in omega (arith, e)),
  λ s h at. splits_as i.table.shared.key own.id c.args.self.now.limit c.args.made own.me.0 s.words s.views (ap (λ m. m.0) c.requires.own.1) (sym (ap (λ v. v.limit) c.self.view_is) ∙ sym c.self.invariant.key) c.requires.few h at,
)
