use Rattle.std.proofs.Common.{◌≡◌, ◌≤◌, ◌*◌, ◌^◌, take, map}
use Rattle.br_records.specs.ShownRecords.{outlined}
use Rattle.br_check.specs.Findings.{bytes_in}
use Rattle.br_check.proofs.run.bytes_of.Given as goal

abbrev pub invariant-loop-sketch : goal.invariant-loop-sketch
invariant-loop-sketch l = (l.bytes ≡ bytes_in (map outlined (take l.sketch-index l.sketches))) × (l.bytes ≤ l.sketch-index * 2 ^ 64)
