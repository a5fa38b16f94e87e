use Rattle.br_block.specs.Crc.{AreEntries}
use Rattle.br_block.proofs.crc.Crc.new.Given as goal

-- the entries so far
abbrev pub invariant-loop-place : goal.invariant-loop-place
invariant-loop-place l = AreEntries l.entries.items l.place
