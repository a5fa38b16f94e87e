use Rattle.br_plan.specs.Fault.{cause}
use Rattle.std.proofs.lemmas.Result.{err_from_is_err_and}
use Rattle.br_console.proofs.RunLaws.{opening_refused, opening_is}
use Rattle.br_console.proofs.running.console_for.Goals as goal

pub returns-in_err-tree : goal.returns-in_err-tree
returns-in_err-tree c =
    let p = err_from_is_err_and c.from_residual.result c.from_residual.ensures.1 in
    rw (p.1, p.2) (opening_refused c.args.asked.now (cause c.in_err-tree.field-0.0) c.in_err-tree.ensures)

pub returns : goal.returns
returns c = opening_is c.args.asked.now c.in_ok-tree.tree c.in_ok-new.field-0 c.in_ok-tree.ensures c.in_ok-new.ensures
