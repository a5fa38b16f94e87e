use Rattle.std.proofs.Common.{drop, map, ◌+◌}
use Rattle.br_tree.specs.Seen.{seen_path}
use Rattle.br_tree.specs.Lists.{found_in}
use Rattle.br_tree.proofs.ListsLaws.{found_more}
use Rattle.br_tree.proofs.list.found_pairs.Goals as goal

pub loop-place-preserved : goal.loop-place-preserved
loop-place-preserved c =
    let n = c.loop-place.place in
    found_more c.args.pattern.now (map seen_path c.loop-place.found.items) (map seen_path c.note_if.new.found.items) (drop n c.args.entries.now) (drop n c.args.flags.now) c.pair_at-pair.result (drop (n + 1) c.args.entries.now) c.flag_at.result (drop (n + 1) c.args.flags.now) (found_in c.args.pattern.now c.args.entries.now c.args.flags.now)
    c.loop-place.invariant c.pair_at-pair.ensures c.flag_at.ensures c.in_ok-note_if.ensures
