use Rattle.std.proofs.Common.{◌≡◌, ◌+◌, ◌-◌, ◌*◌, ◌≤◌, fold, take}
use Rattle.br_types.specs.DecimalField.{capped}
use Rattle.br_types.proofs.decimal_field.spelled.Given as goal

-- the number so far is that of the digits so far, up to 2 ^ 64
abbrev pub invariant-loop-digit : goal.invariant-loop-digit
invariant-loop-digit l = (l.value ≤ 18446744073709551616) × (l.value ≡ capped (fold (λ n c. 10 * n + (c - 48)) 0 (take l.digit-index l.digits)))
