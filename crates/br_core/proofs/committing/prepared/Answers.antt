use Rattle.std.proofs.Common.{ap, sym, ◌∙◌}
use Rattle.std.proofs.lemmas.Result.{err_from_is_err_and}
use Rattle.br_history.specs.Taken.{admitted}
use Rattle.br_core.proofs.BackupLaws.{prepares, refused_row}
use Rattle.br_core.proofs.committing.prepared.Goals as goal

pub returns-in_err-check : goal.returns-in_err-check
returns-in_err-check c =
    let p = err_from_is_err_and c.from_residual.result c.from_residual.ensures.1 in
    rw (p.1, p.2)
    (refused_row c.args.history.now c.args.job.now c.args.starts.now c.in_err-check.field-0.0
    (ap (admitted c.args.history.now) (sym c.row.ensures.same) ∙ c.in_err-check.ensures))

pub returns : goal.returns
returns c =
    prepares c.args.history.now c.args.job.now c.args.starts.now c.session_of.result (ap (admitted c.args.history.now) (sym c.row.ensures.same) ∙ c.in_ok-check.ensures) c.session_of.ensures
