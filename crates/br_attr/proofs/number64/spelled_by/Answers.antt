use Rattle.std.proofs.Common.{◌≡◌, ℕ, Bool, true, false, ◌+◌, ◌≤◌, ◌^◌, get_or, drop, Some, ap, sym, ◌∙◌, arith}
use Rattle.std.specs.Prelude.{is_some, unwrap_or}
use Rattle.br_model.specs.Number.{digit64}
use Rattle.br_attr.specs.Digits.{and_digit64, spelled_from}
use Rattle.br_attr.proofs.DigitLaws.{spelled_more_at, spelled_bad_at, spelled_over_at, spelled_all}
use Rattle.br_attr.proofs.number64.spelled_by.Goals as goal

abbrev is_digit : ℕ → Bool
is_digit c = is_some (digit64 c)

rises : (m c : ℕ) → m ≤ and_digit64 m c
rises m c = omega arith

-- the digit that is read
value_is : (c d : ℕ) → Some d ≡ digit64 c → unwrap_or (digit64 c) 0 ≡ d
value_is c d e = ap (λ o. unwrap_or o 0) (sym e)

digit_is : (c d : ℕ) → Some d ≡ digit64 c → is_digit c ≡ true
digit_is c d e = ap is_some (sym e)

pub returns-in_err-digit : goal.returns-in_err-digit
returns-in_err-digit c =
    let text = c.args.digits.now in
    let bad : is_digit (get_or text c.loop-byte.byte-index 0) ≡ false = ap is_some (sym c.in_err-digit.ensures) in
    let none = spelled_bad_at is_digit and_digit64 (2 ^ 64) text c.loop-byte.byte-index c.loop-byte.value (omega arith) bad in
    c.from_residual.ensures ∙ sym none ∙ c.loop-byte.invariant.1

pub returns-in_err-checked_mul : goal.returns-in_err-checked_mul
returns-in_err-checked_mul c =
    let text = c.args.digits.now in
    let over : 2 ^ 64 ≤ and_digit64 c.loop-byte.value (get_or text c.loop-byte.byte-index 0) = omega (arith, c.in_err-checked_mul.ensures) in
    let none = spelled_over_at is_digit and_digit64 (2 ^ 64) text c.loop-byte.byte-index c.loop-byte.value (omega arith) rises over in
    c.from_residual-in_err-checked_mul.ensures ∙ sym none ∙ c.loop-byte.invariant.1

pub returns-in_err-value : goal.returns-in_err-value
returns-in_err-value c =
    let text = c.args.digits.now in
    let value = value_is (get_or text c.loop-byte.byte-index 0) c.in_ok-digit.digit c.in_ok-digit.ensures in
    let over : 2 ^ 64 ≤ and_digit64 c.loop-byte.value (get_or text c.loop-byte.byte-index 0) = omega (arith, value, c.in_err-value.ensures, c.in_ok-checked_mul.ensures.1) in
    let none = spelled_over_at is_digit and_digit64 (2 ^ 64) text c.loop-byte.byte-index c.loop-byte.value (omega arith) rises over in
    c.from_residual-in_err-value.ensures ∙ sym none ∙ c.loop-byte.invariant.1

pub loop-byte-preserved : goal.loop-byte-preserved
loop-byte-preserved c =
    let text = c.args.digits.now in
    let x = get_or text c.loop-byte.byte-index 0 in
    let value = value_is x c.in_ok-digit.digit c.in_ok-digit.ensures in
    let next : c.in_ok-value.value ≡ and_digit64 c.loop-byte.value x = omega (arith, value, c.in_ok-value.ensures.1, c.in_ok-checked_mul.ensures.1) in
    let more = spelled_more_at is_digit and_digit64 (2 ^ 64) text c.loop-byte.byte-index c.loop-byte.value (omega arith) (digit_is x c.in_ok-digit.digit c.in_ok-digit.ensures) in
    (omega (arith, c.in_ok-value.ensures.0, c.in_ok-value.ensures.1), ap (λ n. spelled_from is_digit and_digit64 (2 ^ 64) n (drop (c.loop-byte.byte-index + 1) text)) next ∙ sym more ∙ c.loop-byte.invariant.1)

pub returns : goal.returns
returns c = sym (spelled_all is_digit and_digit64 (2 ^ 64) c.args.digits.now c.loop-byte.byte-index c.loop-byte.value (omega arith) c.loop-byte.invariant.0) ∙ c.loop-byte.invariant.1
