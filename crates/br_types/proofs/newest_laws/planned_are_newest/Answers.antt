use Rattle.br_types.proofs.PlannedLaws.{planned_are_newest_lem}
use Rattle.br_types.proofs.newest_laws.planned_are_newest.Goals as goal

pub returns : goal.returns
returns c = planned_are_newest_lem
