use Rattle.br_types.proofs.NewestLaws.{newest_has_each_path_once_lem}
use Rattle.br_types.proofs.newest_laws.newest_has_each_path_once.Goals as goal

pub returns : goal.returns
returns c = newest_has_each_path_once_lem
