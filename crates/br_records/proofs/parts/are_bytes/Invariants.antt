use Rattle.std.proofs.Common.{◌≡◌, drop, bytes_eq}
use Rattle.br_records.specs.Records.{bytes_in}
use Rattle.br_records.proofs.parts.are_bytes.Given as goal

abbrev pub invariant-loop-part : goal.invariant-loop-part
invariant-loop-part l = bytes_eq (bytes_in (drop l.part-index l.parts)) l.rest ≡ bytes_eq (bytes_in l.parts) l.fn.bytes
