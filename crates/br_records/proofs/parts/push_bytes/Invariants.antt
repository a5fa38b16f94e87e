use Rattle.std.proofs.Common.{◌≡◌, ◌++◌, drop}
use Rattle.br_records.specs.Records.{bytes_in}
use Rattle.br_records.proofs.parts.push_bytes.Given as goal

abbrev pub invariant-loop-part : goal.invariant-loop-part
invariant-loop-part l = l.bytes.items ++ drop l.left (bytes_in (drop l.part-index l.parts)) ≡ l.fn.bytes.items ++ drop l.fn.skip (bytes_in l.parts)
