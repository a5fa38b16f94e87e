use Rattle.std.proofs.Common.{option_map}
use Rattle.br_cli_target.specs.TarEnding.{told_inside}
use Rattle.br_cli_console.proofs.console_command.console_stream.Goals as goal

pub returns-clause-streams : goal.returns-clause-streams
returns-clause-streams g c = (option_map told_inside c.run_left.new.restore.sink, c.in_ok-run.ensures.session, rw (c.extent_of.ensures, c.take.ensures.value) at c.end_stream-writer.ensures.held)
