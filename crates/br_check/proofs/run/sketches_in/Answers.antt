use Rattle.std.proofs.Common.{List, ap, sym, ◌∙◌}
use Rattle.std.specs.FinMap.{entries}
use Rattle.std.proofs.lemmas.Result.{IfOk-weaker}
use Rattle.br_model.specs.Meaning.{Hit}
use Rattle.br_records.specs.Outline.{outlines_found}
use Rattle.br_records.specs.Runs.{listed}
use Rattle.br_records.proofs.SortLaws.{listed_is}
use Rattle.br_check.proofs.run.sketches_in.Goals as goal

pub returns : goal.returns
returns c =
    let settled = c.settle.new.hits.items in
    IfOk-weaker c.sketches_of.result _ _
    (λ sketches is.
    is
    ∙ ap (λ (hs : List Hit). outlines_found (listed hs)) c.deref.ensures.value
    ∙ ap outlines_found
    (sym (listed_is settled c.in_ok-settle.ensures.listed) ∙ ap entries c.in_ok-settle.ensures.same))
    c.sketches_of.ensures
