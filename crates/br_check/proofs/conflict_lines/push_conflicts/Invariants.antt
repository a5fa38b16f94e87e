use Rattle.std.proofs.Common.{map, take}
use Rattle.br_records.specs.ShownRecords.{outlined}
use Rattle.br_check.specs.Conflicts.{Told}
use Rattle.br_check.specs.Findings.{copies_of}
use Rattle.br_check.proofs.conflict_lines.push_conflicts.Given as goal

-- the lines of the files so far
abbrev pub invariant-loop-sketch : goal.invariant-loop-sketch
invariant-loop-sketch l = Told l.ways l.initial.text.items l.text.items (copies_of (map outlined (take l.sketch-index l.sketches)))
