use Rattle.std.proofs.Common.{arith}
use Rattle.br_core.proofs.StepLaws.{shows_early, shows_none, shows_to}
use Rattle.br_core.proofs.steps.shown.Goals as goal

pub returns-in_default : goal.returns-in_default
returns-in_default c = shows_none c.args.backups.now c.args.restores.now c.args.number c.args.commits c.in_default.ensures

pub returns-then-commits-since : goal.returns-then-commits-since
returns-then-commits-since c =
    shows_early c.args.backups.now c.args.restores.now c.args.number c.args.commits c.in-Some.since c.in-Some.ensures (omega arith)

pub returns : goal.returns
returns c =
    shows_to c.args.backups.now c.args.restores.now c.args.number c.args.commits c.in-Some.since _ c.in-Some.ensures (omega arith) c.volumes_after.ensures
