use Rattle.br_console.proofs.StandingLaws.{drives_stand_for_plans_lem}
use Rattle.br_console.proofs.selecting.drives_stand_for_plans.Goals as goal

pub returns : goal.returns
returns c = drives_stand_for_plans_lem
