use Rattle.std.proofs.Common.{◌≡◌, ◌++◌, List, map}
use Rattle.std.specs.Slice.Iter.{iter_rest}
use Rattle.br_model.specs.Name.{FileKey}
use Rattle.br_types.specs.Newest.{AreNoted}
use Rattle.br_records.specs.ShownRecords.{outlined}
use Rattle.br_records.specs.declared.outline.Sketch.{Sketch}
use Rattle.br_check.specs.Findings.{copies_of}
use Rattle.br_check.proofs.copies.noted.Given as goal

-- the copies of the files after those that are left
abbrev pub invariant-loop-sketch : goal.invariant-loop-sketch
invariant-loop-sketch l =
    (done : List (FileKey × Sketch)) × AreNoted l.copies (copies_of (map outlined done)) × (iter_rest l.sketch-iterator.iter ++ done ≡ l.sketches)
