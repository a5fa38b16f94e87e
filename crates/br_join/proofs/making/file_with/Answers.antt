use Rattle.std.proofs.Common.{sym, ap, subst, ◌∙◌}
use Rattle.std.proofs.lemmas.Result.{err_from_is_err_and}
use Rattle.br_model.specs.Answer.{Answers}
use Rattle.br_model.specs.File as model
use Rattle.br_model.specs.Name.{FileKey}
use Rattle.br_records.specs.Making.{cause}
use Rattle.br_join.specs.Plain.{plain_data}
use Rattle.br_records.specs.Records.{fragments}
use Rattle.br_join.proofs.PlainLaws.{made_by_records, plain_read, refused_by_records}
use Rattle.br_join.proofs.making.file_with.Goals as goal

pub returns-in_err-records : goal.returns-in_err-records
returns-in_err-records c = λ is.
    let p = err_from_is_err_and c.from_residual.result c.from_residual.ensures.1 in
    rw (p.1, p.2) (refused_by_records c.args.key (fragments c.args.hits.now) c.in_err-records.field-0.0 c.in_err-records.ensures)

pub returns : goal.returns
returns c = λ is.
    let fs = fragments c.args.hits.now in
    let rs = c.in_ok-records.records.items in
    let value = c.deref.ensures.value in
    subst (λ (x : model.Outcome). Answers (λ (item : model.Item). item) cause c.plain_content.result x)
    (ap (λ (k : FileKey). model.content k.index c.deref.result.now) c.key.view_is ∙ ap (model.content c.args.key.index) value ∙ made_by_records c.args.key fs rs c.in_ok-records.ensures)
    (c.plain_content.ensures (plain_read fs rs c.args.plain c.in_ok-records.ensures is ∙ ap plain_data (sym value)))
