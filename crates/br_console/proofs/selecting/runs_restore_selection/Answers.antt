use Rattle.br_console.proofs.StandingLaws.{runs_restore_selection_of}
use Rattle.br_console.proofs.selecting.runs_restore_selection.Goals as goal

pub returns : goal.returns
returns c = runs_restore_selection_of c.drives_stand_for_plans.ensures c.runs_mean_selection.ensures
