use Rattle.std.proofs.Common.{◌-◌, ◌++◌, ap, ◌∙◌, arith}
use Rattle.br_attr.specs.Digits.{last_digits}
use Rattle.br_attr.proofs.WritingLaws.{digit_more}
use Rattle.br_attr.proofs.number64.push_digits.Goals as goal

pub loop-left-preserved : goal.loop-left-preserved
loop-left-preserved c =
    let n = c.args.magnitude in
    let place = c.loop-left.left in
    (omega arith, ap (λ t. t ++ last_digits n (place - 1)) c.in_ok-push.ensures.items ∙ digit_more n place c.digit_in.result c.loop-left.text.items (omega arith) c.digit_in.ensures ∙ c.loop-left.invariant.1)
