use Rattle.br_history.proofs.NeededLaws.{chosen_choose_alike, covered_choose_alike}
use Rattle.br_history.proofs.laws.needed_jobs_choose_alike.Goals as goal

pub returns-clause-covered : goal.returns-clause-covered
returns-clause-covered c = covered_choose_alike

pub returns-clause-chosen : goal.returns-clause-chosen
returns-clause-chosen c = chosen_choose_alike
