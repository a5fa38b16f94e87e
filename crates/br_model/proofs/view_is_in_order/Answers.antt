use Rattle.br_model.proofs.ViewLaws.{view_is_in_order_lem}
use Rattle.br_model.proofs.view_is_in_order.Goals as goal

pub returns : goal.returns
returns c = view_is_in_order_lem
