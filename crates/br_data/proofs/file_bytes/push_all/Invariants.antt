use Rattle.std.proofs.Common.{◌≡◌, ◌++◌, take}
use Rattle.br_data.specs.BodyParts.{joined}
use Rattle.br_data.proofs.file_bytes.push_all.Given as goal

-- the bytes of the parts so far come after the others
abbrev pub invariant-loop-part : goal.invariant-loop-part
invariant-loop-part l = l.bytes.items ≡ l.fn.bytes.items ++ joined (take l.part-index l.parts)
