use Rattle.br_keeper.proofs.OutlastingLaws.{crashes_leave_jobs_lem}
use Rattle.br_keeper.proofs.laws.crashes_leave_jobs.Goals as goal

pub returns : goal.returns
returns c = crashes_leave_jobs_lem
