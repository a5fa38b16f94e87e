use Rattle.std.proofs.Common.{◌∙◌, List, ap, map}
use Rattle.std.specs.Borrow.{Bor}
use Rattle.br_model.specs.Job.{JobRows}
use Rattle.br_model.specs.View.{Entry}
use Rattle.br_view.specs.Shown.{shown_pair}
use Rattle.br_plan.specs.Selected.{FileOf}
use Rattle.br_plan.specs.Parts.{groups_of_jobs}
use Rattle.br_plan.proofs.NameLaws.{named_is_planned}
use Rattle.br_plan.proofs.PlanLaws.{groups_are}
use Rattle.br_plan.proofs.plan.plan_for.Goals as goal

pub returns : goal.returns
returns c =
    let selected : List Entry = map shown_pair c.args.entries.now in
    let jobs : List JobRows = map (λ (j : Bor JobRows). j.now) c.args.jobs.now in
    let groups =
    c.from_valid.ensures ∙ c.in_ok-groups.ensures.same ∙ ap (λ (fs : List FileOf). groups_of_jobs fs jobs) c.deref.ensures.value
    ∙ groups_are selected c.in_ok-files.files.items jobs c.in_ok-files.ensures in
    let names = named_is_planned c.args.entries.now c.in_ok-names.names c.in_ok-names.ensures in
    λ i. record { groups = groups i; names = names i }
