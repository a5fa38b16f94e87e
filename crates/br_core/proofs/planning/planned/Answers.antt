use Rattle.std.proofs.Common.{ℕ, List, map, sym, ap, subst, ◌∙◌}
use Rattle.std.proofs.lemmas.Result.{err_from_is_err_and}
use Rattle.br_model.specs.Answer.{IsRefusal}
use Rattle.br_model.specs.Plan.{plan_of}
use Rattle.br_mark.specs.Said.{said}
use Rattle.br_plan.specs.Fault.{cause}
use Rattle.br_core.proofs.ScriptLaws.{planned_by, script_views, unchosen, unplanned}
use Rattle.br_core.proofs.planning.planned.Goals as goal

pub for_marked-requires : goal.for_marked-requires
for_marked-requires c = λ jobs chosen.
    c.tree.ensures.view
    ∙ script_views c.new-asked.result.history c.new-asked.result.request c.in_ok-console.console c.run_script.new.console (map said c.args.script.now) c.in_ok-console.ensures c.in_ok-run_script.ensures jobs chosen

pub returns-in_err-console : goal.returns-in_err-console
returns-in_err-console c =
    let p = err_from_is_err_and c.from_residual.result c.from_residual.ensures.1 in
    rw (p.1, p.2, sym c.new-asked.ensures.history, sym c.new-asked.ensures.request) (unchosen c.new-asked.result.history c.new-asked.result.request (map said c.args.script.now) (cause c.in_err-console.field-0.0) c.in_err-console.ensures)

pub returns-in_err-plan : goal.returns-in_err-plan
returns-in_err-plan c =
    let p = err_from_is_err_and c.from_residual-in_err-plan.result c.from_residual-in_err-plan.ensures.1 in
    let why = c.in_err-plan.field-0.0 in
    let refused = subst (λ (marks : List (List ℕ)). IsRefusal (cause why) (plan_of c.new-asked.result.history c.new-asked.result.request marks)) c.tree.ensures.marked c.in_err-plan.ensures.answers in
    rw (p.1, p.2, sym c.new-asked.ensures.history, sym c.new-asked.ensures.request)
    (unplanned c.new-asked.result.history c.new-asked.result.request c.in_ok-console.console c.run_script.new.console (map said c.args.script.now) (cause why) c.in_ok-console.ensures c.in_ok-run_script.ensures
    refused)

pub returns : goal.returns
returns c =
    rw (sym c.new-asked.ensures.history, sym c.new-asked.ensures.request)
    (planned_by c.new-asked.result.history c.new-asked.result.request c.in_ok-console.console c.run_script.new.console (map said c.args.script.now) c.in_ok-marked.field-0.items c.in_ok-plan.plan
    c.in_ok-console.ensures c.in_ok-run_script.ensures
    (ap (plan_of c.new-asked.result.history c.new-asked.result.request) (sym c.tree.ensures.marked) ∙ c.in_ok-plan.ensures.answers) c.in_ok-marked.ensures.same)
