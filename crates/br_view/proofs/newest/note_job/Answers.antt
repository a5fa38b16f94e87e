use Rattle.std.proofs.Common.{refl}
use Rattle.br_view.proofs.NewestLaws.{row_more, rows_all}
use Rattle.br_view.proofs.newest.note_job.Goals as goal

pub loop-row-init : goal.loop-row-init
loop-row-init c path = refl

pub loop-row-preserved : goal.loop-row-preserved
loop-row-preserved c =
    row_more c.args.kept.now c.loop-row.kept c.note.new.kept c.args.job.now c.files-row-items.result.now c.loop-row.row-index c.row-item.result c.loop-row-test.true c.row-item.is
    c.loop-row.invariant c.in_ok-note.ensures

pub returns-clause-kept : goal.returns-clause-kept
returns-clause-kept c =
    rows_all c.args.kept.now c.loop-row.kept c.args.job.now c.files-row-items.result.now c.loop-row.row-index c.files-row-items.ensures.same c.loop-row-test.false c.loop-row.invariant
