use Rattle.br_cli_console.proofs.LoadedLaws.{sessions_alike}
use Rattle.br_cli_console.proofs.alike_sessions.sessions_are_alike.Goals as goal

pub returns : goal.returns
returns c = sessions_alike
