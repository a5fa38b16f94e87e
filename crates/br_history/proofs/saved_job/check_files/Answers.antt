use Rattle.br_history.proofs.SavingLaws.{order_refused}
use Rattle.br_history.proofs.saved_job.check_files.Goals as goal

pub returns-in-Err : goal.returns-in-Err
returns-in-Err c = order_refused c.args.files.now _ c.in-Err.ensures.same
