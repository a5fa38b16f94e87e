use Rattle.std.proofs.Common.{◌≡◌, ◌+◌, ◌-◌, ◌^◌, ◌<◌, drop, length, min}
use Rattle.br_records.specs.Records.{bytes_in}
use Rattle.br_records.proofs.parts.length_of.Given as goal

abbrev pub invariant-loop-part : goal.invariant-loop-part
invariant-loop-part l = record {
  fits : l.len < 2 ^ 64;
  adds : min (l.len + length (bytes_in (drop l.part-index l.parts))) (2 ^ 64 - 1) ≡ min (length (bytes_in l.parts)) (2 ^ 64 - 1);
}
