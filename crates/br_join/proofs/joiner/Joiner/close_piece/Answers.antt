use Rattle.std.proofs.Common.{◌≡◌, sym, ap, refl, ◌∙◌}
use Rattle.std.specs.FinMap as finite
use Rattle.br_join.specs.Joining.{Joining, with_closed}
use Rattle.br_join.specs.Pieces.{as_map}
use Rattle.br_join.proofs.PieceLaws.{not_there, is_there}
use Rattle.br_join.proofs.joiner.Joiner.close_piece.Goals as goal

pub returns-then-not-contains_key-clause-stranger : goal.returns-then-not-contains_key-clause-stranger
returns-then-not-contains_key-clause-stranger c = (
  refl,
  ap (λ (j : Joining). finite.get j.pieces c.args.piece) (sym c.self.view_is)
      ∙ not_there c.self.inside.pieces c.args.piece (sym c.contains_key.ensures ∙ c.if-not-contains_key.true),
)

pub close-requires : goal.close-requires
close-requires c = is_there c.self.inside.pieces c.args.piece (sym c.contains_key.ensures ∙ c.if-not-contains_key.false)

pub returns-clause-refused : goal.returns-clause-refused
returns-clause-refused c = λ none.
    absurd (is_there c.self.inside.pieces c.args.piece (sym c.contains_key.ensures ∙ c.if-not-contains_key.false)
    (ap (λ (j : Joining). finite.get j.pieces c.args.piece) c.self.view_is ∙ none))

pub returns-clause-ok : goal.returns-clause-ok
returns-clause-ok c =
    let step : record { pieces = as_map c.close.new.pieces; names = c.self.inside.names; hits = c.rise.new.self; room = c.self.inside.room } ≡ with_closed (record { pieces = as_map c.self.inside.pieces; names = c.self.inside.names; hits = c.self.inside.hits; room = c.self.inside.room }) c.args.piece =
    λ i. record { pieces = c.close.ensures i; names = c.self.inside.names; hits = c.rise.ensures i; room = c.self.inside.room } in
    step ∙ ap (λ (j : Joining). with_closed j c.args.piece) c.self.view_is
