use Rattle.std.proofs.Common.{◌<◌, ℕ, List, [], length, refl, ap, subst, sym, arith}
use Rattle.std.specs.Borrow.{Bor}
use Rattle.br_console.specs.MarkedPaths.{texts, marks_from}
use Rattle.br_console.proofs.PathsLaws.{HasMarked, has_marked_more, texts_more}
use Rattle.br_console.proofs.marked_paths.mark_paths.Goals as goal

pub loop-pattern-init : goal.loop-pattern-init
unfolding marks_from
loop-pattern-init c = (refl, refl, ap texts c.new-missed.ensures.items)

pub loop-pattern-preserved : goal.loop-pattern-preserved
loop-pattern-preserved c =
    let i = c.loop-pattern.pattern-index in
    let all = c.args.patterns.now in
    let none : Bor (List ℕ) = record { ref_ptr = (0, 0); now = [] } in
    let inside : i < length all = omega (arith, c.loop-pattern-test.true) in
    subst (HasMarked c.args.tree.now c.mark_or_note.new.tree (texts c.mark_or_note.new.missed.items)) (sym (texts_more all i none inside))
    (has_marked_more c.args.tree.now c.loop-pattern.tree c.mark_or_note.new.tree (texts c.loop-pattern.missed.items) (texts c.mark_or_note.new.missed.items) _ _
    c.loop-pattern.invariant c.in_ok-mark_or_note.ensures.marks c.in_ok-mark_or_note.ensures.missed)
