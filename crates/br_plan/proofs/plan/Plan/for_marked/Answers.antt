use Rattle.std.proofs.Common.{◌∙◌, ℕ, List, Result, ap, sym, subst, map}
use Rattle.std.proofs.lemmas.Result.{err_from_is_err_and}
use Rattle.std.specs.Borrow.{Bor}
use Rattle.br_model.specs.Answer.{Answers}
use Rattle.br_model.specs.Job.{JobRows, is_history}
use Rattle.br_model.specs.Plan.{Plan}
use Rattle.br_plan.specs.Fault.{cause}
use Rattle.br_plan.specs.Means.{plan_unless_empty}
use Rattle.br_plan.specs.Selected.{flags_in, selected_by}
use Rattle.br_view.specs.Shown.{shown_pair}
use Rattle.br_plan.proofs.PlanLaws.{choice_refused, planned, plan_means}
use Rattle.br_plan.proofs.plan.Plan.for_marked.Goals as goal

pub returns-in_err-jobs-clause-answers : goal.returns-in_err-jobs-clause-answers
returns-in_err-jobs-clause-answers c =
    let p = err_from_is_err_and c.from_residual.result c.from_residual.ensures.1 in
    rw (p.1, p.2) (choice_refused c.args.asked.now.history c.args.asked.now.request c.args.tree.now.marked c.in_err-jobs.field-0.0 c.in_err-jobs.ensures.answers)

pub returns-clause-answers : goal.returns-clause-answers
returns-clause-answers c =
    let h = c.args.asked.now.history in
    let q = c.args.asked.now.request in
    let marks = c.args.tree.now.marked in
    let pairs = c.entries.result.now in
    let flags = c.flags.result.now in
    let jobs : List JobRows = map (λ (j : Bor JobRows). j.now) c.in_ok-jobs.jobs.items in
    let is =
    planned h q marks jobs pairs flags (ap is_history (sym c.history.ensures) ∙ c.jobs.ensures.valid) c.in_ok-jobs.ensures.answers (c.entries.ensures.same ∙ c.requires jobs c.in_ok-jobs.ensures.answers)
    (c.flags.ensures ∙ sym (ap (flags_in marks) c.entries.ensures.same))
    ∙ ap (λ (bs : List (Bor JobRows)). plan_unless_empty (map shown_pair (selected_by pairs flags)) (map (λ (j : Bor JobRows). j.now) bs)) (sym c.deref.ensures.value) in
    subst (λ (e : Result Plan ℕ). Answers (λ (plan : Plan). plan) cause c.plan_from.result e) (sym is) c.plan_from.ensures

pub returns-clause-means : goal.returns-clause-means
returns-clause-means c = plan_means c.plan_means_selection.ensures c.args.asked.now.history c.args.asked.now.request c.args.tree.now.marked (ap is_history (sym c.history.ensures) ∙ c.jobs.ensures.valid) c.plan_from.result (returns-clause-answers c)
