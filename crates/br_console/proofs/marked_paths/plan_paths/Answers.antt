use Rattle.std.proofs.Common.{sym, subst, ◌∙◌}
use Rattle.std.proofs.lemmas.Result.{err_from_is_err_and}
use Rattle.br_model.specs.Answer.{IsRefusal}
use Rattle.br_model.specs.Plan.{Plan}
use Rattle.br_plan.specs.Fault.{cause}
use Rattle.br_console.specs.MarkedPaths.{texts}
use Rattle.br_console.proofs.PathsLaws.{planned, told, tree_views, unplanned}
use Rattle.br_console.proofs.marked_paths.plan_paths.Goals as goal

pub returns-in_err-tree-clause-plan : goal.returns-in_err-tree-clause-plan
returns-in_err-tree-clause-plan c =
    let p = err_from_is_err_and c.from_residual.result c.from_residual.ensures.1 in
    rw (p.1, p.2) (unplanned c.args.asked.now (texts c.args.patterns.now) (cause c.in_err-tree.field-0.0) c.in_err-tree.ensures)

pub for_marked-requires : goal.for_marked-requires
for_marked-requires c = tree_views c.args.asked.now c.in_ok-tree.tree c.mark_paths.new.tree.view c.in_ok-tree.ensures c.in_ok-missed.ensures.view

pub returns-in_err-plan-clause-plan : goal.returns-in_err-plan-clause-plan
returns-in_err-plan-clause-plan c =
    let p = err_from_is_err_and c.from_residual-in_err-plan.result c.from_residual-in_err-plan.ensures.1 in
    let is = planned c.args.asked.now c.in_ok-tree.tree (texts c.args.patterns.now) c.mark_paths.new.tree.marked c.in_ok-tree.ensures c.in_ok-missed.ensures.marks in
    rw (p.1, p.2) (subst (IsRefusal {Y = Plan} (cause c.in_err-plan.field-0.0)) (sym is) c.in_err-plan.ensures.answers)

pub returns-clause-plan : goal.returns-clause-plan
returns-clause-plan c =
    planned c.args.asked.now c.in_ok-tree.tree (texts c.args.patterns.now) c.mark_paths.new.tree.marked c.in_ok-tree.ensures c.in_ok-missed.ensures.marks
    ∙ c.in_ok-plan.ensures.answers

pub returns-clause-missed : goal.returns-clause-missed
returns-clause-missed c = told c.args.asked.now c.in_ok-tree.tree (texts c.args.patterns.now) (texts c.in_ok-missed.missed.items) c.in_ok-tree.ensures c.in_ok-missed.ensures.missed
