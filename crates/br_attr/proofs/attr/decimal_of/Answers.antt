use Rattle.std.proofs.Common.{◌≡◌, ℕ, ◌+◌, ◌≤◌, ◌^◌, get_or, drop, ap, sym, ◌∙◌, arith}
use Rattle.std.specs.Char.{is_ascii_digit}
use Rattle.br_attr.specs.Digits.{and_decimal, spelled_from}
use Rattle.br_attr.proofs.DigitLaws.{spelled_more_at, spelled_bad_at, spelled_over_at, spelled_all}
use Rattle.br_attr.proofs.attr.decimal_of.Goals as goal

rises : (m c : ℕ) → m ≤ and_decimal m c
rises m c = omega arith

pub returns-then-not-is_ascii_digit : goal.returns-then-not-is_ascii_digit
returns-then-not-is_ascii_digit c =
    let text = c.args.digits.now in
    let none = spelled_bad_at is_ascii_digit and_decimal (2 ^ 32) text c.loop-byte.byte-index c.loop-byte.value (omega arith) (sym c.if-not-is_ascii_digit.ensures.value) in
    sym none ∙ c.loop-byte.invariant.1

pub returns-in_err-checked_mul : goal.returns-in_err-checked_mul
returns-in_err-checked_mul c =
    let text = c.args.digits.now in
    let over : 2 ^ 32 ≤ and_decimal c.loop-byte.value (get_or text c.loop-byte.byte-index 0) = omega (arith, c.in_err-checked_mul.ensures) in
    let none = spelled_over_at is_ascii_digit and_decimal (2 ^ 32) text c.loop-byte.byte-index c.loop-byte.value (omega arith) rises over in
    c.from_residual.ensures ∙ sym none ∙ c.loop-byte.invariant.1

pub returns-in_err-value : goal.returns-in_err-value
returns-in_err-value c =
    let text = c.args.digits.now in
    let over : 2 ^ 32 ≤ and_decimal c.loop-byte.value (get_or text c.loop-byte.byte-index 0) = omega (arith, c.in_err-value.ensures, c.in_ok-checked_mul.ensures.1) in
    let none = spelled_over_at is_ascii_digit and_decimal (2 ^ 32) text c.loop-byte.byte-index c.loop-byte.value (omega arith) rises over in
    c.from_residual-in_err-value.ensures ∙ sym none ∙ c.loop-byte.invariant.1

pub loop-byte-preserved : goal.loop-byte-preserved
loop-byte-preserved c =
    let text = c.args.digits.now in
    let x = get_or text c.loop-byte.byte-index 0 in
    let next : c.in_ok-value.value ≡ and_decimal c.loop-byte.value x = omega (arith, c.in_ok-value.ensures.1, c.in_ok-checked_mul.ensures.1) in
    let more = spelled_more_at is_ascii_digit and_decimal (2 ^ 32) text c.loop-byte.byte-index c.loop-byte.value (omega arith) (sym c.if-not-is_ascii_digit.ensures.value) in
    (omega (arith, c.in_ok-value.ensures.0, c.in_ok-value.ensures.1), ap (λ n. spelled_from is_ascii_digit and_decimal (2 ^ 32) n (drop (c.loop-byte.byte-index + 1) text)) next ∙ sym more ∙ c.loop-byte.invariant.1)

pub returns : goal.returns
returns c = sym (spelled_all is_ascii_digit and_decimal (2 ^ 32) c.args.digits.now c.loop-byte.byte-index c.loop-byte.value (omega arith) c.loop-byte.invariant.0) ∙ c.loop-byte.invariant.1
