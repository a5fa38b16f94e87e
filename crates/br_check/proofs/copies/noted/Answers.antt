use Rattle.std.proofs.Common.{◌++◌, ◌∷◌, [], List, ap, map, sym, ◌∙◌, append_assoc}
use Rattle.std.specs.Slice.Iter.{iter_rest}
use Rattle.br_model.specs.Name.{FileKey}
use Rattle.br_records.specs.ShownRecords.{outlined}
use Rattle.br_records.specs.declared.outline.Sketch.{Sketch}
use Rattle.br_check.specs.Findings.{copies_of}
use Rattle.br_check.proofs.copies.noted.Goals as goal

pub loop-sketch-preserved : goal.loop-sketch-preserved
loop-sketch-preserved c =
    let i = c.loop-sketch.invariant in
    let s : FileKey × Sketch = c.in-Some.sketch.now in
    let left : List (FileKey × Sketch) = iter_rest c.next.new.self.iter in (
      s ∷ i.0,
      c.in_ok-note.ensures (copies_of (map outlined i.0)) i.1,
      sym (append_assoc left (s ∷ []) i.0) ∙ ap (λ (ss : List (FileKey × Sketch)). ss ++ i.0) (sym c.in-Some.ensures.steps) ∙ i.2,
    )
