use Rattle.std.proofs.Common.{sym, ap, ◌∙◌}
use Rattle.std.specs.FinMap as finite
use Rattle.br_join.specs.Joining.{Joining}
use Rattle.br_join.proofs.PieceLaws.{not_there, is_there}
use Rattle.br_join.proofs.joiner.Joiner.take_batch.Goals as goal

pub returns-then-not-contains_key-clause-known : goal.returns-then-not-contains_key-clause-known
returns-then-not-contains_key-clause-known c = λ _.
    ap (λ (j : Joining). finite.get j.pieces c.args.piece) (sym c.self.view_is)
    ∙ not_there c.self.inside.pieces c.args.piece (sym c.contains_key.ensures ∙ c.if-not-contains_key.true)

pub returns-in-Err-clause-stranger : goal.returns-in-Err-clause-stranger
returns-in-Err-clause-stranger c = λ none.
    absurd (is_there c.self.inside.pieces c.args.piece (sym c.contains_key.ensures ∙ c.if-not-contains_key.false)
    (ap (λ (j : Joining). finite.get j.pieces c.args.piece) c.self.view_is ∙ none))

pub returns-in-Ok-clause-refused : goal.returns-in-Ok-clause-refused
returns-in-Ok-clause-refused c = λ none.
    absurd (is_there c.self.inside.pieces c.args.piece (sym c.contains_key.ensures ∙ c.if-not-contains_key.false)
    (ap (λ (j : Joining). finite.get j.pieces c.args.piece) c.self.view_is ∙ none))
