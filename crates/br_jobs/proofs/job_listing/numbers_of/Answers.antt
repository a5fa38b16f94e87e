use Rattle.br_jobs.proofs.LineLaws.{numbers_more}
use Rattle.br_jobs.proofs.job_listing.numbers_of.Goals as goal

pub loop-job-preserved : goal.loop-job-preserved
loop-job-preserved c =
    numbers_more c.loop-job.numbers c.add_number.new.numbers c.args.jobs.now c.loop-job.job-index c.number_of.result c.job-item.result c.loop-job-test.true c.job-item.is
    c.number_of.ensures c.loop-job.invariant c.in_ok-add_number.ensures
