use Rattle.std.proofs.Common.{◌++◌, ◌∷◌, [], List, ap, flat_map, map, subst, sym, ◌≡◌, ◌∙◌, append_assoc}
use Rattle.std.specs.Slice.Iter.{iter_rest}
use Rattle.std.proofs.lemmas.List.{nil_from_length}
use Rattle.br_model.specs.Name.{FileKey}
use Rattle.br_records.specs.ShownRecords.{outlined}
use Rattle.br_records.specs.declared.outline.Sketch.{Sketch}
use Rattle.br_types.specs.Newest.{AreNoted, Copy, is_outdated}
use Rattle.br_check.specs.Copies.{outdated_at}
use Rattle.br_check.specs.Findings.{copies_at, copies_of}
use Rattle.br_check.proofs.CopyLaws.{filter_flat}
use Rattle.br_check.proofs.copies.outdated_of.Goals as goal

pub loop-sketch-preserved : goal.loop-sketch-preserved
loop-sketch-preserved c =
    let i = c.loop-sketch.invariant in
    let s : FileKey × Sketch = c.in-Some.sketch.now in
    let left : List (FileKey × Sketch) = iter_rest c.next.new.self.iter in (
      s ∷ i.0,
      c.in_ok-note_old.ensures (flat_map (outdated_at (copies_of (map outlined c.args.all.now))) (map outlined i.0)) i.1,
      sym (append_assoc left (s ∷ []) i.0) ∙ ap (λ (ss : List (FileKey × Sketch)). ss ++ i.0) (sym c.in-Some.ensures.steps) ∙ i.2,
    )

pub returns : goal.returns
returns c =
    let i = c.loop-sketch.invariant in
    let all : List Copy = copies_of (map outlined c.args.all.now) in
    let none : iter_rest c.loop-sketch.sketch-iterator.iter ≡ [] = nil_from_length _ c.in-None.ensures.steps.0 in
    let done : i.0 ≡ c.args.all.now = ap (λ (ss : List (FileKey × Sketch)). ss ++ i.0) (sym none) ∙ i.2 in
    subst (λ (cs : List Copy). AreNoted c.loop-sketch.old cs)
    (ap (λ (ss : List (FileKey × Sketch)). flat_map (outdated_at all) (map outlined ss)) done
    ∙ sym (filter_flat (is_outdated all) copies_at (map outlined c.args.all.now)))
    i.1
