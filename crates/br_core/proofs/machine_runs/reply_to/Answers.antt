use Rattle.br_core.specs.Happening.{event_of}
use Rattle.br_core.proofs.PointLaws.{refused_step}
use Rattle.br_core.proofs.machine_runs.reply_to.Goals as goal

pub returns-in-Some : goal.returns-in-Some
returns-in-Some g c =
    refused_step c.args.world.now c.step.new.self (event_of c.args.event) c.in-Err.fault c.in-Some.number c.in-Err.ensures.step c.in-Some.ensures
