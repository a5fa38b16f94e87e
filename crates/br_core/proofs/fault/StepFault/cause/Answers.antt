use Rattle.br_core.proofs.FaultLaws.{cause_none, cause_some}
use Rattle.br_core.proofs.fault.StepFault.cause.Goals as goal

pub returns-then-number-eq1 : goal.returns-then-number-eq1
returns-then-number-eq1 c = cause_none c.args.self c.number-number.result c.number-number.ensures c.if-number-eq1.true

pub returns-else-number-eq1 : goal.returns-else-number-eq1
returns-else-number-eq1 c = cause_some c.args.self c.number-number.result c.number-number.ensures c.if-number-eq1.false
