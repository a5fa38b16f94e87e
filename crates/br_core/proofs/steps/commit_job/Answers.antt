use Rattle.std.proofs.lemmas.Result.{err_from_is_err_and}
use Rattle.br_core.proofs.StepLaws.{commit_done, commit_refused}
use Rattle.br_core.proofs.steps.commit_job.Goals as goal

pub returns-in_err-commit-clause-step : goal.returns-in_err-commit-clause-step
returns-in_err-commit-clause-step c restores reached =
    let p = err_from_is_err_and c.from_residual.result c.from_residual.ensures.1 in
    rw (p.1) (commit_refused c.args.backups.now c.commit.new.self c.args.job restores c.in_err-commit.field-0.0 p.0 p.2 c.in_err-commit.ensures.committed)

pub returns-clause-step : goal.returns-clause-step
returns-clause-step c restores reached =
    commit_done c.args.backups.now c.commit.new.self c.args.job restores reached c.commit.ensures.each c.in_ok-commit.ensures.committed
