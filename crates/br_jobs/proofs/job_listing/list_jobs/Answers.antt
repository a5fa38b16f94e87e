use Rattle.std.proofs.Common.{[], ◌∙◌, subst}
use Rattle.br_jobs.specs.JobFilter.{is_listed}
use Rattle.br_jobs.specs.LocalTime.{AppendsLineIn}
use Rattle.br_jobs.proofs.LineLaws.{lines_more}
use Rattle.br_jobs.proofs.job_listing.list_jobs.Goals as goal

pub loop-job-init : goal.loop-job-init
loop-job-init c = ([], tt, c.new-text.ensures.items)

pub loop-job-preserved : goal.loop-job-preserved
loop-job-preserved c =
    let chosen = c.is_among-is_chosen.ensures ∙ c.in_ok-numbers.ensures c.job-item.result.row.id in
    lines_more c.args.zones.now c.args.chosen.now (is_listed c.args.filter.now) c.args.jobs.now c.loop-job.job-index c.job-item.result c.loop-job.text.items _
    c.loop-job-test.true c.job-item.is c.loop-job.invariant
    (subst (λ b. AppendsLineIn c.args.zones.now (is_listed c.args.filter.now c.job-item.result) b c.job-item.result c.loop-job.text.items c.push_job.new.text.items) chosen c.in_ok-push_job.ensures)
