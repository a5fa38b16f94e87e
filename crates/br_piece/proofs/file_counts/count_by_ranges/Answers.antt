use Rattle.br_piece.proofs.CountLaws.{all_ranges}
use Rattle.br_piece.proofs.file_counts.count_by_ranges.Goals as goal

pub returns : goal.returns
returns c =
    all_ranges c.args.group.now c.args.keys.now c.loop-range.found c.loop-range.next c.loop-range.range-index c.args.ranges.now c.loop-range-test.false
    c.loop-range.invariant.all c.requires.rising
