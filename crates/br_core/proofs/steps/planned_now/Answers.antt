use Rattle.std.proofs.Common.{map}
use Rattle.std.proofs.lemmas.Result.{err_from_is_err_and}
use Rattle.br_mark.specs.Said.{said}
use Rattle.br_core.proofs.StepLaws.{begins, unplanned}
use Rattle.br_core.proofs.steps.planned_now.Goals as goal

pub returns-in_err-marks : goal.returns-in_err-marks
returns-in_err-marks c =
    let p = err_from_is_err_and c.from_residual.result c.from_residual.ensures.1 in
    rw (p.1)
    (unplanned c.args.backups.now c.args.request (map said c.args.script.now) c.history.result.now c.in_err-marks.field-0.0 p.0 c.history.ensures p.2 c.in_err-marks.ensures)

pub returns : goal.returns
returns c =
    begins c.args.backups.now c.args.request (map said c.args.script.now) c.history.result.now c.in_ok-marks.marks.items c.in_ok-marks.plan c.in_ok-new.field-0 c.len.result c.history.ensures
    c.in_ok-marks.ensures c.in_ok-new.ensures c.len.ensures.earlier c.len.ensures.jobs
