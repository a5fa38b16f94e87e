use Rattle.br_core.proofs.MovingLaws.{delivered_in, undelivered_in}
use Rattle.br_core.proofs.steps.deliver_files.Goals as goal

pub returns-in-Ok : goal.returns-in-Ok
returns-in-Ok g c =
    delivered_in c.args.backups.now c.args.restores.now.items c.deliver.new.restores.items c.args.number c.in-Ok.files c.in-Ok.ensures

pub returns-in-Err : goal.returns-in-Err
returns-in-Err g c =
    undelivered_in c.args.backups.now c.args.restores.now.items c.deliver.new.restores.items c.args.number c.in-Err.fault c.in-Err.ensures
