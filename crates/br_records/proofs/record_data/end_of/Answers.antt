use Rattle.std.proofs.lemmas.Result.{err_from_is_err_and}
use Rattle.br_records.specs.Making.{cause}
use Rattle.br_records.proofs.EndLaws.{end_done, end_more, end_refused}
use Rattle.br_records.proofs.record_data.end_of.Goals as goal

pub returns-in_err-end : goal.returns-in_err-end
returns-in_err-end c =
    let p = err_from_is_err_and c.from_residual.result c.from_residual.ensures.1 in
    rw (p.1, p.2)
    (end_refused c.loop-record.end c.args.records.now c.loop-record.record-index c.record-item.result c.loop-record-test.true c.record-item.is
    (cause c.in_err-end.field-0.0) c.in_err-end.ensures c.loop-record.invariant)

pub loop-record-preserved : goal.loop-record-preserved
loop-record-preserved c =
    end_more c.loop-record.end c.in_ok-end.end c.args.records.now c.loop-record.record-index c.record-item.result c.loop-record-test.true c.record-item.is
    c.in_ok-end.ensures c.loop-record.invariant

pub returns : goal.returns
returns c = end_done c.loop-record.end c.args.records.now c.loop-record.record-index c.loop-record-test.false c.loop-record.invariant
