use Rattle.std.proofs.Common.{◌≡◌, ◌++◌, take, map, flat_map}
use Rattle.br_records.specs.ShownRecords.{outlined}
use Rattle.br_check.specs.Findings.{name_line}
use Rattle.br_check.proofs.name_lines.push_names.Given as goal

abbrev pub invariant-loop-sketch : goal.invariant-loop-sketch
invariant-loop-sketch l = l.text.items ≡ l.initial.text.items ++ flat_map name_line (map outlined (take l.sketch-index l.sketches))
