use Rattle.br_cli_common.proofs.FindLaws.{found_row, known, right}
use Rattle.br_cli_common.proofs.refusal.row_in.Goals as goal

pub returns-clause-row : goal.returns-clause-row
returns-clause-row c = found_row c.find_in.result c.args.refusals.now c.args.number c.find_in.ensures

pub returns-clause-known : goal.returns-clause-known
returns-clause-known c = known c.find_in.result c.args.refusals.now c.args.number c.find_in.ensures

pub returns-clause-number : goal.returns-clause-number
returns-clause-number c = right c.find_in.result c.args.refusals.now c.args.number c.find_in.ensures
