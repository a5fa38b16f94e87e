use Rattle.std.proofs.Common.{◌≡◌, ◌++◌, length, map}
use Rattle.br_records.specs.Outline.{outlines_found}
use Rattle.br_records.specs.Runs.{AreListed, listed}
use Rattle.br_records.specs.ShownRecords.{outlined}
use Rattle.br_records.proofs.outline.sketches_of.Given as goal

-- the sketches so far, and the outlines of the hits that are left
abbrev pub invariant-loop-first : goal.invariant-loop-first
invariant-loop-first l = AreListed l.rest × (map outlined l.sketches.items ++ outlines_found (listed l.rest) ≡ outlines_found (listed l.hits))

abbrev pub decreases-loop-first : goal.decreases-loop-first
decreases-loop-first l = length l.rest
