use Rattle.std.proofs.Common.{◌≡◌, ◌-◌}
use Rattle.br_block.specs.Crc as model
use Rattle.br_block.proofs.crc_shift.shifted_by.Given as goal

-- what is left of the bits gives of the register that is left what all give of the first
abbrev pub invariant-loop : goal.invariant-loop
invariant-loop l = model.shifted_by (l.bits - l.counter) l.left ≡ model.shifted_by l.fn.bits l.fn.register
