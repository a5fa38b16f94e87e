use Rattle.br_model.proofs.ViewLaws.{view_is_lookups_lem}
use Rattle.br_model.proofs.view_is_lookups.Goals as goal

pub returns : goal.returns
returns c = view_is_lookups_lem
