use Rattle.std.proofs.Common.{◌≡◌, ◌<◌, drop}
use Rattle.std.specs.Prelude.{◌^◌}
use Rattle.std.specs.Char.{is_ascii_digit}
use Rattle.br_attr.specs.Digits.{and_decimal, spelled10, spelled_from}
use Rattle.br_attr.proofs.attr.decimal_of.Given as goal

-- what is spelled is the number so far and the digits that are left
abbrev pub invariant-loop-byte : goal.invariant-loop-byte
invariant-loop-byte l = (l.value < 2 ^ 32) × (spelled_from is_ascii_digit and_decimal (2 ^ 32) l.value (drop l.byte-index l.digits) ≡ spelled10 l.fn.digits)
