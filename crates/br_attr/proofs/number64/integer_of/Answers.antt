use Rattle.std.proofs.Common.{sym, ◌∙◌, ap}
use Rattle.std.specs.Prelude.{option_and_then}
use Rattle.br_attr.specs.Digits.{signed64}
use Rattle.br_attr.proofs.DigitLaws.{integer_of_spelled}
use Rattle.br_attr.proofs.number64.integer_of.Goals as goal

pub returns-in_err-spelled_by : goal.returns-in_err-spelled_by
returns-in_err-spelled_by c =
    let parts = integer_of_spelled c.args.minus c.args.digits.now (sym c.if-is_empty.ensures) in
    c.from_residual.ensures ∙ ap (option_and_then (signed64 c.args.minus)) c.in_err-spelled_by.ensures ∙ sym parts

pub returns : goal.returns
returns c =
    let parts = integer_of_spelled c.args.minus c.args.digits.now (sym c.if-is_empty.ensures) in
    c.signed.ensures ∙ ap (option_and_then (signed64 c.args.minus)) c.in_ok-spelled_by.ensures ∙ sym parts
