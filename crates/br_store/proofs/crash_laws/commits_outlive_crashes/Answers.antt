use Rattle.br_keeper.specs.Keeping.{shelf_of}
use Rattle.br_store.proofs.CrashLaws.{commit_outlives}
use Rattle.br_store.proofs.crash_laws.commits_outlive_crashes.Goals as goal

pub returns : goal.returns
returns g c job old new result is =
    commit_outlives g.S.Store (shelf_of g.W.VolumeStore.holds g.W.VolumeStore.failures) job old new result is
