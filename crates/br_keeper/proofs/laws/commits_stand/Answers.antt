use Rattle.br_keeper.specs.Outcomes.{lasting}
use Rattle.br_keeper.proofs.HoldingLaws.{commits_stand_lem}
use Rattle.br_keeper.proofs.laws.commits_stand.Goals as goal

pub returns : goal.returns
returns g c steps old new jobs are is = commits_stand_lem (lasting g.C.JobStore g.W.VolumeStore) steps old new jobs are is
