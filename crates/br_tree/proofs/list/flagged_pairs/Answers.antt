use Rattle.std.proofs.Common.{drop, ◌+◌}
use Rattle.br_tree.specs.Lists.{kept}
use Rattle.br_tree.proofs.ListsLaws.{kept_more}
use Rattle.br_tree.proofs.list.flagged_pairs.Goals as goal

pub loop-place-preserved : goal.loop-place-preserved
loop-place-preserved c =
    let n = c.loop-place.place in
    kept_more c.loop-place.pairs.items c.keep_if.new.pairs.items (drop n c.args.entries.now) (drop n c.args.flags.now) c.pair_at-pair.result (drop (n + 1) c.args.entries.now) c.flag_at.result (drop (n + 1) c.args.flags.now) (kept c.args.entries.now c.args.flags.now)
    c.loop-place.invariant c.pair_at-pair.ensures c.flag_at.ensures c.in_ok-keep_if.ensures
