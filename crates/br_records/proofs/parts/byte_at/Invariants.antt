use Rattle.std.proofs.Common.{◌≡◌, drop, slice_index}
use Rattle.br_records.specs.Records.{bytes_in}
use Rattle.br_records.proofs.parts.byte_at.Given as goal

abbrev pub invariant-loop-part : goal.invariant-loop-part
invariant-loop-part l = slice_index (bytes_in (drop l.part-index l.parts)) l.left ≡ slice_index (bytes_in l.parts) l.fn.place
