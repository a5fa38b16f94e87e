use Rattle.br_history.proofs.RowFitLaws.{written_rows_fit_lem}
use Rattle.br_history.proofs.laws.written_rows_fit.Goals as goal

pub returns : goal.returns
returns c = written_rows_fit_lem
