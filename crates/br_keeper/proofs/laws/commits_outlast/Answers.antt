use Rattle.br_keeper.specs.Outcomes.{lasting}
use Rattle.br_keeper.proofs.OutlastingLaws.{commits_outlast_lem}
use Rattle.br_keeper.proofs.laws.commits_outlast.Goals as goal

pub returns : goal.returns
returns g c steps old new jobs are is last = commits_outlast_lem (lasting g.C.JobStore g.W.VolumeStore) steps old new jobs are is last
