use Rattle.std.proofs.Common.{◌∙◌, ap, option_map}
use Rattle.br_cli_common.specs.RefusalRows.{row_of}
use Rattle.br_cli_common.proofs.FindLaws.{either_right, explained_row, found_either}
use Rattle.br_cli_common.proofs.refusal.explain.Goals as goal

pub returns-clause-row : goal.returns-clause-row
returns-clause-row c =
    ap (option_map (λ row. row_of row.now)) c.or.ensures
    ∙ found_either c.row_in.result c.row_in-2.result c.args.number c.refusals_below_50.result.now c.refusals_from_50.result.now
    c.refusals_below_50.ensures c.refusals_from_50.ensures c.row_in.ensures.row c.row_in-2.ensures.row

pub returns-clause-known : goal.returns-clause-known
returns-clause-known c = explained_row c.or.result c.args.number (returns-clause-row c)

pub returns-clause-number : goal.returns-clause-number
returns-clause-number c = rw c.or.ensures (either_right c.row_in.result c.row_in-2.result c.args.number c.row_in.ensures.number c.row_in-2.ensures.number)
