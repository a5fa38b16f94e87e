use Rattle.std.proofs.Common.{refl, sym, ap, ◌∙◌, eqb, not, ◌&&◌, ◌||◌}
use Rattle.std.specs.BTreeSet.{contains}
use Rattle.std.specs.Ordering.{nat_cmp}
use Rattle.br_model.specs.Job.{FileRow, no_pair}
use Rattle.br_history.proofs.RowLaws.{row_repeated, row_added, seen_more}
use Rattle.br_history.proofs.rows.indexes_differ.Goals as goal

pub loop-file-init : goal.loop-file-init
unfolding no_pair
loop-file-init c = (refl, λ q. rw c.new-seen.ensures.empty refl)

pub returns-then-not-branch : goal.returns-then-not-branch
returns-then-not-branch c =
    let same = ap (λ (f : FileRow). f.index) c.file.view_is in
    sym (row_repeated c.loop-file.seen c.args.files.now c.loop-file.file-index c.file-item.result c.in_ok-is_new.field-0 c.loop-file-test.true c.file-item.is c.loop-file.invariant.1
    (c.in_ok-is_new.ensures.answer ∙ ap (λ n. not (not (eqb n 0) && contains nat_cmp c.loop-file.seen n)) same) c.if-not-branch.true)

pub loop-file-preserved : goal.loop-file-preserved
loop-file-preserved c =
    let same = ap (λ (f : FileRow). f.index) c.file.view_is in (
      row_added c.loop-file.seen c.args.files.now c.loop-file.file-index c.file-item.result c.in_ok-is_new.field-0 c.loop-file-test.true c.file-item.is c.loop-file.invariant.1
          (c.in_ok-is_new.ensures.answer ∙ ap (λ n. not (not (eqb n 0) && contains nat_cmp c.loop-file.seen n)) same) c.if-not-branch.false c.loop-file.invariant.0,
      seen_more c.loop-file.seen c.is_new.new.seen c.args.files.now c.loop-file.file-index c.file-item.result c.loop-file-test.true c.file-item.is c.loop-file.invariant.1
          (λ q. c.in_ok-is_new.ensures.noted q ∙ ap (λ n. contains nat_cmp c.loop-file.seen q || (not (eqb n 0) && eqb n q)) same),
    )
