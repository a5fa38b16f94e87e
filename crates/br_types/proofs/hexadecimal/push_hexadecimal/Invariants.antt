use Rattle.std.proofs.Common.{◌≡◌, ◌++◌, take}
use Rattle.br_model.specs.Text.{hexadecimal}
use Rattle.br_types.proofs.hexadecimal.push_hexadecimal.Given as goal

abbrev pub invariant-loop-byte : goal.invariant-loop-byte
invariant-loop-byte l = l.text.items ≡ l.initial.text.items ++ hexadecimal (take l.byte-index l.bytes)
