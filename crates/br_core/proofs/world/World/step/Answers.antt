use Rattle.std.proofs.Common.{OnOk, subst, rules}
use Rattle.br_core.specs.Committing.{AppendsIfCommit}
use Rattle.br_core.specs.Happening.{event_of}
use Rattle.br_core.specs.Machine.{World}
use Rattle.br_core.specs.Stepping.{TakesStep, world_with}
use Rattle.br_core.proofs.PointLaws.{all_have_hits, step_gives}
use Rattle.br_core.proofs.StepLaws.{still_reached}
use Rattle.br_core.proofs.world.World.step.Goals as goal

pub take_step-requires : goal.take_step-requires
take_step-requires g c = (search rules, c.self.invariant)

pub invariant_of-self : goal.invariant_of-self
invariant_of-self g c =
    let old = c.self.inside in
    let new = c.take_step.new in
    still_reached (world_with old.backups old.restores.items) (world_with new.backups new.restores.items) (event_of c.args.event) c.take_step.result c.self.invariant c.take_step.ensures.step
    c.take_step.ensures.whole

pub returns-clause-step : goal.returns-clause-step
returns-clause-step g c =
    subst (λ (w : World). TakesStep w (event_of c.args.event) (world_with c.take_step.new.backups c.take_step.new.restores.items) c.take_step.result) c.self.view_is c.take_step.ensures.step

pub returns-clause-appends : goal.returns-clause-appends
returns-clause-appends g c =
    subst (λ (w : World). OnOk c.take_step.result (AppendsIfCommit w.volumes (event_of c.args.event) c.take_step.new.backups.volumes)) c.self.view_is c.take_step.ensures.appends

pub returns-clause-reached : goal.returns-clause-reached
returns-clause-reached g c = invariant_of-self g c

pub returns-clause-delivers : goal.returns-clause-delivers
returns-clause-delivers g c = step_gives _ _ _ _ (returns-clause-step g c)

pub returns-clause-hits : goal.returns-clause-hits
returns-clause-hits g c = all_have_hits _
