use Rattle.std.proofs.Common.{◌≡◌, ◌<◌, drop}
use Rattle.std.specs.Prelude.{is_some, ◌^◌}
use Rattle.br_model.specs.Number.{digit64}
use Rattle.br_attr.specs.Digits.{and_digit64, spelled64, spelled_from}
use Rattle.br_attr.proofs.number64.spelled_by.Given as goal

-- what is spelled is the number so far and the digits that are left
abbrev pub invariant-loop-byte : goal.invariant-loop-byte
invariant-loop-byte l = (l.value < 2 ^ 64) × (spelled_from (λ c. is_some (digit64 c)) and_digit64 (2 ^ 64) l.value (drop l.byte-index l.digits) ≡ spelled64 l.fn.digits)
