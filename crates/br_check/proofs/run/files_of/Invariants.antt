use Rattle.std.proofs.Common.{◌≡◌, ◌≤◌, take, map}
use Rattle.br_records.specs.ShownRecords.{outlined}
use Rattle.br_check.specs.Findings.{files_in}
use Rattle.br_check.proofs.run.files_of.Given as goal

abbrev pub invariant-loop-sketch : goal.invariant-loop-sketch
invariant-loop-sketch l = (l.files ≡ files_in (map outlined (take l.sketch-index l.sketches))) × (l.files ≤ l.sketch-index)
