use Rattle.br_store.proofs.CrashLaws.{crashes_leave_found_jobs_lem}
use Rattle.br_store.proofs.crash_laws.crashes_leave_found_jobs.Goals as goal

pub returns : goal.returns
returns g c = crashes_leave_found_jobs_lem g.S.Store g.W.VolumeStore g.met.S.Store.settled
