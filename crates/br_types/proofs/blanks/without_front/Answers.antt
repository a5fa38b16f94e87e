use Rattle.std.proofs.Common.{sym}
use Rattle.br_types.proofs.BlankLaws.{front_found, front_missing}
use Rattle.br_types.proofs.blanks.without_front.Goals as goal

pub returns-in-Some : goal.returns-in-Some
returns-in-Some c = sym (front_found c.args.text.now c.in-Some.first c.in-Some.ensures)

pub returns-in-None : goal.returns-in-None
returns-in-None c = sym (front_missing c.args.text.now c.in-None.ensures)
