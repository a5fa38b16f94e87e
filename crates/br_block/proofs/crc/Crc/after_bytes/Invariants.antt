use Rattle.std.proofs.Common.{◌≡◌, take}
use Rattle.br_block.specs.Crc.{after}
use Rattle.br_block.proofs.crc.Crc.after_bytes.Given as goal

-- the bytes so far were taken in
abbrev pub invariant-loop-byte : goal.invariant-loop-byte
invariant-loop-byte l = l.taken ≡ after l.fn.register (take l.byte-index l.bytes)
