use Rattle.std.proofs.Common.{◌≡◌, ◌*◌, take}
use Rattle.br_block.specs.Crc.{after}
use Rattle.br_block.proofs.crc.Crc.after_words.Given as goal

-- the words so far were taken in
abbrev pub invariant-loop-place : goal.invariant-loop-place
invariant-loop-place l = l.taken ≡ after l.fn.register (take (l.place * 8) l.bytes)
