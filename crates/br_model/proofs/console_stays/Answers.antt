use Rattle.br_model.proofs.ConsoleLaws.{console_stays_lem}
use Rattle.br_model.proofs.console_stays.Goals as goal

pub returns : goal.returns
returns c = console_stays_lem
