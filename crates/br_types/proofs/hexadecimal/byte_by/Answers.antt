use Rattle.std.proofs.Common.{sym, ◌∙◌}
use Rattle.br_types.proofs.SpellingLaws.{byte_read, byte_refused, capital_byte}
use Rattle.br_types.proofs.hexadecimal.byte_by.Goals as goal

pub returns-then-has_capital : goal.returns-then-has_capital
returns-then-has_capital c = capital_byte c.args.high c.args.low (sym c.has_capital.ensures ∙ c.if-has_capital.true)

pub returns-in-Ok : goal.returns-in-Ok
returns-in-Ok c = byte_read c.args.high c.args.low c.in-Ok.byte (sym c.has_capital.ensures ∙ c.if-has_capital.false) c.in-Ok.ensures

pub returns-in-Err : goal.returns-in-Err
returns-in-Err c = byte_refused c.args.high c.args.low _ (sym c.has_capital.ensures ∙ c.if-has_capital.false) c.in-Err.ensures
