use Rattle.std.proofs.Common.{◌≡◌, ◌++◌, drop}
use Rattle.br_data.specs.BodyParts.{joined}
use Rattle.br_records.specs.Records.{bytes_in}
use Rattle.br_records.proofs.parts.share_bytes.Given as goal

abbrev pub invariant-loop-part : goal.invariant-loop-part
invariant-loop-part l = joined l.file.items ++ drop l.left (bytes_in (drop l.part-index l.parts)) ≡ joined l.fn.file.items ++ drop l.fn.skip (bytes_in l.parts)
