use Rattle.std.proofs.Common.{take}
use Rattle.md5.specs.Md5.{Holds}
use Rattle.br_data.specs.BodyParts.{joined}
use Rattle.br_data.proofs.file_bytes.digest_of.Given as goal

-- the parts so far were digested
abbrev pub invariant-loop-part : goal.invariant-loop-part
invariant-loop-part l = Holds l.hasher (joined (take l.part-index l.parts))
