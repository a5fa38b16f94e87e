use Rattle.std.proofs.Common.{drop, ◌+◌}
use Rattle.br_plan.specs.Selected.{has_file, kept_of}
use Rattle.br_plan.proofs.SelectLaws.{kept_more}
use Rattle.br_plan.proofs.select.kept.Goals as goal

pub loop-place-preserved : goal.loop-place-preserved
loop-place-preserved c =
    let n = c.loop-place.place in
    let linked = has_file c.args.files.now in
    kept_more linked c.loop-place.kept.items c.keep_if.new.pairs.items (drop n c.args.entries.now) (drop n c.args.flags.now) c.pair_at-shown.result (drop (n + 1) c.args.entries.now) c.flag_at.result c.is_wanted-wanted.result (drop (n + 1) c.args.flags.now)
    (kept_of linked c.args.entries.now c.args.flags.now) c.loop-place.invariant c.pair_at-shown.ensures c.flag_at.ensures c.is_wanted-wanted.ensures c.in_ok-keep_if.ensures
