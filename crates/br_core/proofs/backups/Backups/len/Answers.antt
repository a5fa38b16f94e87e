use Rattle.std.proofs.Common.{◌≡◌, length, arith}
use Rattle.br_core.proofs.BackupLaws.{are_whole, commits_length}
use Rattle.br_core.proofs.backups.Backups.len.Goals as goal

pub returns-clause-jobs : goal.returns-clause-jobs
returns-clause-jobs c =
    let each : length c.self.inside.commits.items ≡ length c.args.self.now.jobs = commits_length c.args.self.now _ _ _ c.self.view_is c.self.invariant in
    omega arith

pub returns-clause-whole : goal.returns-clause-whole
returns-clause-whole c = are_whole c.args.self.now _ _ _ c.self.view_is c.self.invariant
