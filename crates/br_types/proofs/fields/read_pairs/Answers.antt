use Rattle.std.proofs.Common.{ap, sym, ◌∙◌}
use Rattle.br_model.specs.Answer.{some_or}
use Rattle.br_types.proofs.SpellingLaws.{capital_spells_nothing, refused_digits, spelled}
use Rattle.br_types.proofs.fields.read_pairs.Goals as goal

pub returns-then-has_capital : goal.returns-then-has_capital
returns-then-has_capital c = ap (λ o. some_or o tt) (capital_spells_nothing c.args.text.now (sym c.has_capital.ensures ∙ c.if-has_capital.true))

pub returns-in-Ok : goal.returns-in-Ok
returns-in-Ok c =
    ap (λ o. some_or o tt) (spelled c.args.text.now c.in-Ok.bytes.items (sym c.has_capital.ensures ∙ c.if-has_capital.false) c.in-Ok.ensures.ok)

pub returns-in-Err : goal.returns-in-Err
returns-in-Err c =
    rw c.refused_by.ensures (refused_digits c.args.text.now c.in-Err.fault (sym c.has_capital.ensures ∙ c.if-has_capital.false) c.in-Err.ensures.err)
