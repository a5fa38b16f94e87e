use Rattle.br_console.proofs.ChoiceAloneLaws.{runs_depend_on_choice_lem}
use Rattle.br_console.proofs.selecting.runs_depend_on_choice.Goals as goal

pub returns : goal.returns
returns c = runs_depend_on_choice_lem
