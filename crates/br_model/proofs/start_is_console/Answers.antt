use Rattle.br_model.proofs.ConsoleLaws.{start_is_console_lem}
use Rattle.br_model.proofs.start_is_console.Goals as goal

pub returns : goal.returns
returns c = start_is_console_lem
