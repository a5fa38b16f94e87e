use Rattle.std.proofs.Common.{List, map, subst, sym, arith}
use Rattle.std.proofs.lemmas.List.{take_all}
use Rattle.br_model.specs.Name.{FileKey}
use Rattle.br_records.specs.ShownRecords.{outlined}
use Rattle.br_records.specs.declared.outline.Sketch.{Sketch}
use Rattle.br_check.specs.Conflicts.{Told}
use Rattle.br_check.specs.Findings.{copies_of}
use Rattle.br_check.proofs.ConflictLaws.{told_all, told_first, told_next}
use Rattle.br_check.proofs.conflict_lines.push_conflicts.Goals as goal

pub loop-sketch-init : goal.loop-sketch-init
loop-sketch-init c = told_first c.new-ways.result c.args.text.now.items c.new-ways.ensures

pub loop-sketch-preserved : goal.loop-sketch-preserved
loop-sketch-preserved c =
    told_next c.loop-sketch.ways c.push_conflict.new.ways c.args.text.now.items c.loop-sketch.text.items c.push_conflict.new.text.items c.args.sketches.now
    c.loop-sketch.sketch-index c.sketch-item.result c.loop-sketch-test.true (sym c.sketch-item.is) c.loop-sketch.invariant c.in_ok-push_conflict.ensures

pub returns : goal.returns
returns c =
    let all = take_all c.loop-sketch.sketch-index c.args.sketches.now (omega (arith, c.loop-sketch-test.false)) in
    told_all c.loop-sketch.ways c.args.text.now.items c.loop-sketch.text.items (map outlined c.args.sketches.now)
    (subst (λ (ss : List (FileKey × Sketch)). Told c.loop-sketch.ways c.args.text.now.items c.loop-sketch.text.items (copies_of (map outlined ss))) all c.loop-sketch.invariant)
