use Rattle.std.proofs.Common.{◌≡◌, ◌∙◌, ℕ, List, Result, Ok, ap, sym, subst, map}
use Rattle.std.proofs.lemmas.Result.{err_from_is_err_and}
use Rattle.std.specs.Borrow.{Bor}
use Rattle.br_model.specs.Answer.{Answers, IsRefusal}
use Rattle.br_model.specs.Job.{JobRows}
use Rattle.br_model.specs.Choice.{Request, choose}
use Rattle.br_model.specs.View.{view_of}
use Rattle.br_model.specs.Plan.{Plan}
use Rattle.br_choose.specs.Fault as choice
use Rattle.br_plan.specs.Fault.{cause}
use Rattle.br_plan.specs.Means.{plan_unless_empty}
use Rattle.br_plan.specs.Selected.{flags_in, selected_by}
use Rattle.br_view.specs.Shown.{shown_pair}
use Rattle.br_plan.proofs.PlanLaws.{choice_refused, planned, plan_means}
use Rattle.br_plan.proofs.plan.Plan.make.Goals as goal

pub returns-in_err-jobs-clause-answers : goal.returns-in_err-jobs-clause-answers
returns-in_err-jobs-clause-answers c =
    let p = err_from_is_err_and c.from_residual.result c.from_residual.ensures.1 in
    rw (p.1, p.2) (choice_refused c.args.history.now c.args.request.now c.args.marks.now c.in_err-jobs.field-0.0 (subst (λ (r : Request). IsRefusal (choice.cause c.in_err-jobs.field-0.0) (choose c.args.history.now r)) c.request.view_is c.in_err-jobs.ensures.answers))

pub returns-clause-answers : goal.returns-clause-answers
returns-clause-answers c =
    let h = c.args.history.now in
    let q = c.args.request.now in
    let marks = c.args.marks.now in
    let pairs = c.entries-2.result.now in
    let flags = c.deref-2.result.now in
    let jobs : List JobRows = map (λ (j : Bor JobRows). j.now) c.in_ok-jobs.jobs.items in
    let chosen : choose h q ≡ Ok jobs = ap (choose h) (sym c.request.view_is) ∙ c.in_ok-jobs.ensures.answers in
    let is =
    planned h q marks jobs pairs flags c.jobs.ensures.valid chosen
    (c.entries-2.ensures.same ∙ c.in_ok-view.ensures ∙ ap (λ (bs : List (Bor JobRows)). view_of (map (λ (j : Bor JobRows). j.now) bs)) c.deref.ensures.value)
    (c.deref-2.ensures.value ∙ c.in_ok-flags.ensures ∙ ap (flags_in marks) (c.entries.ensures.same ∙ sym c.entries-2.ensures.same))
    ∙ ap (λ (bs : List (Bor JobRows)). plan_unless_empty (map shown_pair (selected_by pairs flags)) (map (λ (j : Bor JobRows). j.now) bs)) (sym c.deref-3.ensures.value) in
    subst (λ (e : Result Plan ℕ). Answers (λ (plan : Plan). plan) cause c.plan_from.result e) (sym is) c.plan_from.ensures

pub returns-clause-means : goal.returns-clause-means
returns-clause-means c = plan_means c.plan_means_selection.ensures c.args.history.now c.args.request.now c.args.marks.now c.jobs.ensures.valid c.plan_from.result (returns-clause-answers c)
