use Rattle.br_core.proofs.BackupLaws.{rows_are}
use Rattle.br_core.proofs.backups.Backups.history.Goals as goal

pub returns : goal.returns
returns c = rows_are c.args.self.now _ _ _ c.self.view_is c.self.invariant
