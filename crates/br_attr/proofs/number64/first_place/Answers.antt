use Rattle.std.proofs.Common.{sym, ◌∙◌, arith}
use Rattle.br_attr.proofs.WritingLaws.{all_digits, past_zero, at_digit, at_last}
use Rattle.br_attr.proofs.number64.first_place.Goals as goal

pub loop-place-init : goal.loop-place-init
loop-place-init c = (omega arith, all_digits c.args.magnitude)

pub loop-place-preserved : goal.loop-place-preserved
loop-place-preserved c =
    (omega arith, past_zero c.args.magnitude c.loop-place.place (omega arith) (sym c.digit_in.ensures ∙ c.if-digit_in-eq65.true) ∙ c.loop-place.invariant.1)

pub returns-else-digit_in-eq65-clause-shortest : goal.returns-else-digit_in-eq65-clause-shortest
returns-else-digit_in-eq65-clause-shortest c =
    sym (at_digit c.args.magnitude c.loop-place.place (omega arith) (λ e. c.if-digit_in-eq65.false (c.digit_in.ensures ∙ e))) ∙ c.loop-place.invariant.1

pub returns-after-loop-place-clause-shortest : goal.returns-after-loop-place-clause-shortest
returns-after-loop-place-clause-shortest c = sym (at_last c.args.magnitude c.loop-place.place (omega arith)) ∙ c.loop-place.invariant.1
