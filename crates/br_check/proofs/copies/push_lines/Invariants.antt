use Rattle.std.proofs.Common.{◌≡◌, ◌++◌, take, flat_map, map}
use Rattle.br_records.specs.ShownRecords.{outlined}
use Rattle.br_check.specs.Findings.{copies_of, lines_at}
use Rattle.br_check.proofs.copies.push_lines.Given as goal

abbrev pub invariant-loop-sketch : goal.invariant-loop-sketch
invariant-loop-sketch l =
    l.text.items ≡ l.initial.text.items ++ flat_map (lines_at (copies_of (map outlined l.known.all.now))) (map outlined (take l.sketch-index l.known.all.now))
