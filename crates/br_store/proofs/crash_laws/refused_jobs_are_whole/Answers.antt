use Rattle.br_store.proofs.CrashLaws.{refusals_are_whole}
use Rattle.br_store.proofs.crash_laws.refused_jobs_are_whole.Goals as goal

pub returns : goal.returns
returns g c = refusals_are_whole g.S.Store g.met.S.Store.settled
