use Rattle.br_model.specs.Bootstrap.{FileIndex}
use Rattle.br_model.specs.BootstrapText.{is_range}
use Rattle.br_damage.proofs.IndexLaws.{are_left_more}
use Rattle.br_damage.proofs.ValidLaws.{kept_more}
use Rattle.br_damage.proofs.left_indexes.left_of.Goals as goal

pub loop-range-preserved : goal.loop-range-preserved
loop-range-preserved c =
    let ranges = c.args.ranges.now in
    let old = c.loop-range.left.items in
    let new = c.push_left.new.left.items in
    let at = c.loop-range.range-index in
    record {
      left =
          are_left_more c.args.lost.now.spans.items c.args.session ranges old new at c.range-item.result
          c.loop-range-test.true c.range-item.is c.loop-range.invariant.left c.in_ok-push_left.ensures.left;
      valid =
          kept_more (is_range FileIndex) (is_range FileIndex) ranges old new at c.range-item.result
          c.loop-range-test.true c.range-item.is c.loop-range.invariant.valid c.in_ok-push_left.ensures.valid;
    }
