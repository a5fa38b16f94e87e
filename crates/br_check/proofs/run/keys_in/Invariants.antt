use Rattle.std.proofs.Common.{◌≡◌, take, map}
use Rattle.br_records.specs.ShownRecords.{outlined}
use Rattle.br_check.specs.Check.{keys_of}
use Rattle.br_check.proofs.run.keys_in.Given as goal

abbrev pub invariant-loop-sketch : goal.invariant-loop-sketch
invariant-loop-sketch l = l.keys.items ≡ keys_of (map outlined (take l.sketch-index l.sketches))
