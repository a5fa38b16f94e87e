use Rattle.std.proofs.Common.{◌≡◌, sym, ap, ◌∙◌}
use Rattle.std.specs.FinMap as finite
use Rattle.br_join.specs.Joining.{Joining, taken}
use Rattle.br_join.specs.Pieces.{as_map}
use Rattle.br_join.proofs.PieceLaws.{not_there, is_there}
use Rattle.br_join.proofs.joiner.Joiner.take.Goals as goal

pub returns-then-not-contains_key-clause-known : goal.returns-then-not-contains_key-clause-known
returns-then-not-contains_key-clause-known c = λ _.
    ap (λ (j : Joining). finite.get j.pieces c.args.found.piece) (sym c.self.view_is)
    ∙ not_there c.self.inside.pieces c.args.found.piece (sym c.contains_key.ensures ∙ c.if-not-contains_key.true)

pub returns-in-Err-clause-stranger : goal.returns-in-Err-clause-stranger
returns-in-Err-clause-stranger c = λ none.
    absurd (is_there c.self.inside.pieces c.args.found.piece (sym c.contains_key.ensures ∙ c.if-not-contains_key.false)
    (ap (λ (j : Joining). finite.get j.pieces c.args.found.piece) c.self.view_is ∙ none))

pub close-requires : goal.close-requires
close-requires c = is_there c.self.inside.pieces c.args.found.piece (sym c.contains_key.ensures ∙ c.if-not-contains_key.false)

pub returns-clause-refused : goal.returns-clause-refused
returns-clause-refused c = λ none.
    absurd (is_there c.self.inside.pieces c.args.found.piece (sym c.contains_key.ensures ∙ c.if-not-contains_key.false)
    (ap (λ (j : Joining). finite.get j.pieces c.args.found.piece) c.self.view_is ∙ none))

pub returns-clause-ok : goal.returns-clause-ok
returns-clause-ok c =
    let step : record { pieces = as_map c.close.new.pieces; names = c.self.inside.names; hits = c.rise.new.self; room = c.take.new.room } ≡ taken (record { pieces = as_map c.self.inside.pieces; names = c.self.inside.names; hits = c.self.inside.hits; room = c.self.inside.room }) c.args.found.piece c.args.found.hits.items =
    λ i. record { pieces = c.close.ensures i; names = c.self.inside.names; hits = (c.rise.ensures ∙ c.in_default.ensures.ok) i; room = c.in_default.ensures.room i } in
    step ∙ ap (λ (j : Joining). taken j c.args.found.piece c.args.found.hits.items) c.self.view_is
