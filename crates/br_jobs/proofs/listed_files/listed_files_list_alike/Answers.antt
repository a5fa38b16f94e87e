use Rattle.br_jobs.proofs.ListedLaws.{lists_alike}
use Rattle.br_jobs.proofs.listed_files.listed_files_list_alike.Goals as goal

pub returns : goal.returns
returns c = lists_alike
