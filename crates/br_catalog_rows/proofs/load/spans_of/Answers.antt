use Rattle.std.proofs.Common.{rules, map, Bor}
use Rattle.std.proofs.lemmas.Result.{err_from_is_err_and}
use Rattle.sqlite.specs.Order.{Row}
use Rattle.br_catalog_rows.specs.Decode.{read_span}
use Rattle.br_catalog_rows.specs.Load.{read_all}
use Rattle.br_catalog_rows.proofs.LoadLaws.{same_refusal, lent_fails, lent_more}
use Rattle.br_catalog_rows.proofs.load.spans_of.Goals as goal

pub returns-in_err-span_of : goal.returns-in_err-span_of
returns-in_err-span_of c =
    let p = err_from_is_err_and c.from_residual.result c.from_residual.ensures.1 in
    let stops = lent_fails read_span c.args.rows.now c.loop-row.row-index c.loop-row.spans.items c.row-item.result c.loop-row-test.true c.row-item.is c.loop-row.invariant in
    rw (p.1, p.2) (same_refusal c.in_err-span_of.field-0.0 (read_span c.row-item.result.now) (read_all read_span (map (λ (b : Bor Row). b.now) c.args.rows.now)) stops c.in_err-span_of.ensures)

pub loop-row-preserved : goal.loop-row-preserved
loop-row-preserved c =
    let more = lent_more read_span c.args.rows.now c.loop-row.row-index c.loop-row.spans.items c.row-item.result c.in_ok-span_of.field-0 c.loop-row-test.true c.row-item.is c.loop-row.invariant c.in_ok-span_of.ensures in
    search (rules, more)
