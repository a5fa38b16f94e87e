use Rattle.std.proofs.Common.{arith, ap, sym, filter, not, ◌∙◌}
use Rattle.std.specs.List.{list_all}
use Rattle.std.proofs.lemmas.List.{take_all}
use Rattle.std.proofs.lemmas.Result.{err_from_is_err_and}
use Rattle.sqlite.specs.Order.{column}
use Rattle.br_model.specs.Answer.{refuse_if}
use Rattle.br_catalog_rows.specs.Decode.{small}
use Rattle.br_catalog_rows.specs.Load.{group_of, has, has_job, is_of}
use Rattle.br_catalog_rows.specs.Load.{by_job as rows_by_job}
use Rattle.br_catalog_rows.proofs.LoadLaws.{same_refusal, refused_lacks, numberless, jobless, dealt}
use Rattle.br_catalog_rows.proofs.load.by_job.Goals as goal

pub returns-in_err-small_at : goal.returns-in_err-small_at
returns-in_err-small_at c =
    let p = err_from_is_err_and c.from_residual-in_err-small_at.result c.from_residual-in_err-small_at.ensures.1 in
    let stops = numberless c.args.jobs.now c.args.rows.now c.loop-row.row-index 47 c.row-item.result c.loop-row-test.true c.row-item.is in
    rw (p.1, p.2) (same_refusal c.in_err-small_at.field-0.0 (small (column c.row-item.result 0)) (rows_by_job c.args.jobs.now c.args.rows.now) stops c.in_err-small_at.ensures)

pub returns-in_err-put : goal.returns-in_err-put
returns-in_err-put c =
    let p = err_from_is_err_and c.from_residual-in_err-put.result c.from_residual-in_err-put.ensures.1 in
    let id = c.in_ok-small_at.field-0 in
    let stops = jobless c.args.jobs.now c.args.rows.now c.loop-row.row-index id c.row-item.result c.loop-row-test.true c.row-item.is c.in_ok-small_at.ensures in
    rw (p.1, p.2)
    (same_refusal c.in_err-put.field-0.0 (refuse_if (not (has c.loop-row.places id)) 47) (rows_by_job c.args.jobs.now c.args.rows.now)
    (λ e. stops (sym (c.loop-row.invariant.0 id) ∙ refused_lacks (has c.loop-row.places id) e)) c.in_err-put.ensures.answers)

pub returns : goal.returns
returns c =
    let whole = take_all c.loop-row.row-index c.args.rows.now (omega (arith, c.loop-row-test.false)) in
    dealt c.args.jobs.now c.args.rows.now (group_of c.loop-row.places) (ap (list_all (has_job c.args.jobs.now)) (sym whole) ∙ c.loop-row.invariant.2)
    (λ id. c.loop-row.invariant.1 id ∙ ap (filter (is_of id)) whole)
