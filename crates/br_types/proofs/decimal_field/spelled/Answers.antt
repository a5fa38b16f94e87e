use Rattle.std.proofs.Common.{arith}
use Rattle.br_types.proofs.NumberLaws.{spelled_all}
use Rattle.br_types.proofs.decimal_field.spelled.Goals as goal

pub returns : goal.returns
returns c = spelled_all c.args.digits.now c.loop-digit.digit-index c.loop-digit.value (omega arith) c.loop-digit.invariant.1
