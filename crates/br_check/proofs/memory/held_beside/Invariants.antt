use Rattle.std.proofs.Common.{◌≡◌, ◌≤◌, ◌+◌, ◌*◌, ◌^◌, take, map}
use Rattle.br_records.specs.ShownRecords.{outlined}
use Rattle.br_check.specs.Findings.{held_beside}
use Rattle.br_check.proofs.memory.held_beside.Given as goal

abbrev pub invariant-loop-sketch : goal.invariant-loop-sketch
invariant-loop-sketch l =
    (l.held ≡ held_beside l.fragments (map outlined (take l.sketch-index l.sketches))) × (l.held ≤ 2 ^ 80 + l.sketch-index * 2 ^ 65)
