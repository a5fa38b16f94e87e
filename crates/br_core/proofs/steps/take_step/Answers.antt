use Rattle.br_core.specs.Machine.Event.{Claim, Fail, Take}
use Rattle.br_core.specs.Stepping.{world_with}
use Rattle.br_core.proofs.EventLaws.{claim_is, fail_is, take_is}
use Rattle.br_core.proofs.steps.take_step.Goals as goal

pub returns-in-Commit-clause-step : goal.returns-in-Commit-clause-step
returns-in-Commit-clause-step g c = rw (c.in-Commit.is) (c.commit_job.ensures.step c.args.restores.now.items c.requires)

pub returns-in-Commit-clause-appends : goal.returns-in-Commit-clause-appends
returns-in-Commit-clause-appends g c = rw (c.in-Commit.is) c.commit_job.ensures.appends

pub returns-in-Plan-clause-whole : goal.returns-in-Plan-clause-whole
returns-in-Plan-clause-whole g c = c.requires.whole

pub returns-in-Claim-clause-step : goal.returns-in-Claim-clause-step
returns-in-Claim-clause-step g c =
    rw (c.in-Claim.is)
    (c.step_of_one.ensures c.args.backups.now (Claim c.in-Claim.plan c.in-Claim.piece)
    (claim_is (world_with c.args.backups.now c.args.restores.now.items) c.in-Claim.plan c.in-Claim.piece))

pub returns-in-Claim-clause-whole : goal.returns-in-Claim-clause-whole
returns-in-Claim-clause-whole g c = c.requires.whole

pub returns-in-Read-clause-whole : goal.returns-in-Read-clause-whole
returns-in-Read-clause-whole g c = c.requires.whole

pub returns-in-Fail-clause-step : goal.returns-in-Fail-clause-step
returns-in-Fail-clause-step g c =
    rw (c.in-Fail.is)
    (c.step_of_one-in-Fail.ensures c.args.backups.now (Fail c.in-Fail.plan c.in-Fail.piece)
    (fail_is (world_with c.args.backups.now c.args.restores.now.items) c.in-Fail.plan c.in-Fail.piece))

pub returns-in-Fail-clause-whole : goal.returns-in-Fail-clause-whole
returns-in-Fail-clause-whole g c = c.requires.whole

pub returns-in-Finish-clause-whole : goal.returns-in-Finish-clause-whole
returns-in-Finish-clause-whole g c = c.requires.whole

pub returns-in-Take-clause-step : goal.returns-in-Take-clause-step
returns-in-Take-clause-step g c =
    rw (c.in-Take.is)
    (c.step_of_one-in-Take.ensures c.args.backups.now (Take c.in-Take.plan c.in-Take.place)
    (take_is (world_with c.args.backups.now c.args.restores.now.items) c.in-Take.plan c.in-Take.place))

pub returns-in-Take-clause-whole : goal.returns-in-Take-clause-whole
returns-in-Take-clause-whole g c = c.requires.whole

pub returns-in-Deliver-clause-whole : goal.returns-in-Deliver-clause-whole
returns-in-Deliver-clause-whole g c = c.requires.whole
