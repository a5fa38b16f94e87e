use Rattle.std.proofs.Common.{◌∙◌, List, Bool, ap}
use Rattle.std.proofs.lemmas.Result.{IfOk-weaker}
use Rattle.br_plan.specs.Selected.{FileOf, kept_of}
use Rattle.br_plan.proofs.select.selected.Goals as goal

pub returns : goal.returns
returns c =
    IfOk-weaker c.kept.result _ _
    (λ k e. e ∙ ap (λ (linked : FileOf → Bool). kept_of linked c.args.entries.now c.args.flags.now) (λ i q. c.in_ok-files.ensures q i)) c.kept.ensures
