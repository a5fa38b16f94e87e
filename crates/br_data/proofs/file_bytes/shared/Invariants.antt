use Rattle.std.proofs.Common.{◌≡◌, take}
use Rattle.br_data.specs.BodyParts.{joined}
use Rattle.br_data.proofs.file_bytes.shared.Given as goal

-- the copies have the bytes of the parts so far
abbrev pub invariant-loop-part : goal.invariant-loop-part
invariant-loop-part l = joined l.copies.items ≡ joined (take l.part-index l.parts)
