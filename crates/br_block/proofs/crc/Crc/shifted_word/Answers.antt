use Rattle.br_block.proofs.ShiftLaws.{row_left, row_taken, rows_end}
use Rattle.br_block.proofs.crc.Crc.shifted_word.Goals as goal

pub loop-row-preserved : goal.loop-row-preserved
loop-row-preserved c =
    let l = c.loop-row in
    record {
      low = row_left l.row l.left c.loop-row-test.true l.invariant.low;
      both = row_taken l.row l.register l.left c.entry-register.result c.args.word c.loop-row-test.true c.entry-register.ensures l.invariant.both;
    }

pub returns : goal.returns
returns c =
    let l = c.loop-row in
    rows_end l.row l.register l.left c.args.word c.loop-row-test.false l.invariant.low l.invariant.both
