use Rattle.std.proofs.Common.{sym}
use Rattle.br_catalog_rows.proofs.Cuts.{front_last, front_never}
use Rattle.br_catalog_rows.proofs.encode.front_len.Goals as goal

pub returns-in-Some : goal.returns-in-Some
returns-in-Some c = sym (front_last c.args.path.now c.in-Some.at c.in-Some.ensures)

pub returns-in-None : goal.returns-in-None
returns-in-None c = sym (front_never c.args.path.now c.in-None.ensures)
