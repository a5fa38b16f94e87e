use Rattle.std.proofs.Common.{refl}
use Rattle.br_cli.proofs.check_command.with_checksums.Goals as goal

pub returns-clause-sums : goal.returns-clause-sums
returns-clause-sums g c = record { findings = c.in_ok-push_checksums.ensures.tells; files = refl; bytes = refl; memory = refl }
