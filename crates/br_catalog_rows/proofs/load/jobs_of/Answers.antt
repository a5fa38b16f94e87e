use Rattle.std.proofs.Common.{rules}
use Rattle.std.proofs.lemmas.Result.{err_from_is_err_and}
use Rattle.br_catalog_rows.specs.Decode.{read_job}
use Rattle.br_catalog_rows.specs.Load.{read_all}
use Rattle.br_catalog_rows.proofs.LoadLaws.{same_refusal, read_fails, read_more}
use Rattle.br_catalog_rows.proofs.load.jobs_of.Goals as goal

pub returns-in_err-job_of : goal.returns-in_err-job_of
returns-in_err-job_of c =
    let p = err_from_is_err_and c.from_residual.result c.from_residual.ensures.1 in
    let stops = read_fails read_job c.args.rows.now c.loop-row.row-index c.loop-row.jobs.items c.row-item.result c.loop-row-test.true c.row-item.is c.loop-row.invariant in
    rw (p.1, p.2) (same_refusal c.in_err-job_of.field-0.0 (read_job c.row-item.result) (read_all read_job c.args.rows.now) stops c.in_err-job_of.ensures)

pub loop-row-preserved : goal.loop-row-preserved
loop-row-preserved c =
    let more = read_more read_job c.args.rows.now c.loop-row.row-index c.loop-row.jobs.items c.row-item.result c.in_ok-job_of.field-0 c.loop-row-test.true c.row-item.is c.loop-row.invariant c.in_ok-job_of.ensures in
    search (rules, more)
