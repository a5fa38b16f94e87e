use Rattle.std.proofs.Common.{map, subst}
use Rattle.br_core.specs.Happening.{event_of, reply_of}
use Rattle.br_core.specs.Machine.{World, IsRun}
use Rattle.br_core.proofs.PointLaws.{all_give_selected, always_have_hits}
use Rattle.br_core.proofs.machine_runs.run.Goals as goal

pub returns-clause-run : goal.returns-clause-run
returns-clause-run g c =
    subst (λ (w : World). IsRun w (map event_of c.args.events.items) (map reply_of c.in_ok-replies.replies.items) c.replies_to.new.world) c.new-world.ensures c.in_ok-replies.ensures

pub returns-clause-delivers : goal.returns-clause-delivers
returns-clause-delivers g c = all_give_selected _ _ _ (returns-clause-run g c)

pub returns-clause-hits : goal.returns-clause-hits
returns-clause-hits g c = always_have_hits _ _ _ (returns-clause-run g c)
