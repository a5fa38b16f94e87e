-- The numbers of refused blocks.
use Rattle.std.specs.Prelude.{ℕ}
use Rattle.br_block.specs.declared.fault.BlockFault.{BlockFault}
use Rattle.br_block.specs.declared.fault.BlockFault.TheVariants.{BadId, BadBlockSize, Truncated}

-- the number of a refusal
abbrev pub fault_number : BlockFault → ℕ
fault_number BadId = 10
fault_number BadBlockSize = 11
fault_number Truncated = 12
