use Rattle.std.proofs.Common.{sym, subst, ◌∙◌}
use Rattle.br_model.specs.Answer.{Answers}
use Rattle.br_model.specs.File as model
use Rattle.br_records.specs.Making.{cause}
use Rattle.br_join.proofs.PlainLaws.{made_of_read}
use Rattle.br_join.proofs.making.plain_content.Goals as goal

pub returns : goal.returns
returns c = λ is.
    subst (λ (x : model.Outcome). Answers (λ (item : model.Item). item) cause c.content.result x)
    (made_of_read c.args.index c.args.records.now c.args.plain (sym c.has_sparse_data.ensures ∙ c.if-has_sparse_data.false) is) c.content.ensures
