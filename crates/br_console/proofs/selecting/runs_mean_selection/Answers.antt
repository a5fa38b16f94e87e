use Rattle.br_console.proofs.SelectingLaws.{runs_mean_selection_of}
use Rattle.br_console.proofs.selecting.runs_mean_selection.Goals as goal

pub returns : goal.returns
returns c = runs_mean_selection_of c.plan_means_selection.ensures
