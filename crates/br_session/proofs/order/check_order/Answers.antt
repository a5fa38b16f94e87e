use Rattle.std.proofs.Common.{arith}
use Rattle.std.proofs.lemmas.Grind.{common_steps}
use Rattle.br_session.proofs.OrderLaws.{order_is}
use Rattle.br_session.proofs.order.check_order.Goals as goal

pub returns-then-files-le-MAX_FILES : goal.returns-then-files-le-MAX_FILES
returns-then-files-le-MAX_FILES c = grind (arith, common_steps, order_is)

pub returns-else-are_all_linked_back : goal.returns-else-are_all_linked_back
returns-else-are_all_linked_back c = grind (arith, common_steps, order_is)
