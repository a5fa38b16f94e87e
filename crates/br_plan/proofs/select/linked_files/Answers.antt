use Rattle.std.proofs.Common.{drop, ◌+◌}
use Rattle.br_plan.specs.Selected.{is_linked_by}
use Rattle.br_plan.proofs.SelectLaws.{link_more}
use Rattle.br_plan.proofs.select.linked_files.Goals as goal

pub loop-place-preserved : goal.loop-place-preserved
loop-place-preserved c =
    let n = c.loop-place.place in
    link_more c.loop-place.files c.note_if.new.files (drop n c.args.entries.now) (drop n c.args.flags.now) c.pair_at-shown.result (drop (n + 1) c.args.entries.now) c.flag_at.result (drop (n + 1) c.args.flags.now)
    (is_linked_by c.args.entries.now c.args.flags.now) c.loop-place.invariant c.pair_at-shown.ensures c.flag_at.ensures c.in_ok-note_if.ensures
