use Rattle.std.proofs.Common.{◌≡◌, ◌-◌, ◌*◌, ◌<◌, ◌^◌}
use Rattle.std.specs.Prelude.{bit_xor}
use Rattle.br_block.specs.Crc as model
use Rattle.br_block.proofs.crc.Crc.shifted_word.Given as goal

-- the bytes so far, and those that are left after the bits of as many, are all after 64 bits
abbrev pub invariant-loop-row : goal.invariant-loop-row
invariant-loop-row l = record {
  low : l.left < 2 ^ (8 * (8 - l.row));
  both : bit_xor l.register (model.shifted_by (8 * (8 - l.row)) l.left) ≡ model.shifted_by 64 l.fn.word;
}
