use Rattle.br_core.specs.Moving.{asked, moved}
use Rattle.br_core.proofs.MovingLaws.{moved_in, refused_in}
use Rattle.br_core.proofs.restores.step_of_one.Goals as goal

pub returns-in-Ok : goal.returns-in-Ok
returns-in-Ok c backups event is =
    moved_in backups c.args.restores.now.items c.go.new.restores.items c.args.number event (asked c.args.what) (moved c.args.what) c.in-Ok.ensures is

pub returns-in-Err : goal.returns-in-Err
returns-in-Err c backups event is =
    refused_in backups c.args.restores.now.items c.go.new.restores.items c.args.number event (asked c.args.what) (moved c.args.what) c.in-Err.fault c.in-Err.ensures is
