use Rattle.std.proofs.Common.{sym, subst}
use Rattle.br_core.specs.Moving.{asked, moved}
use Rattle.br_core.specs.View.{MovesIf}
use Rattle.br_core.specs.declared.open_restore.Move.{Move}
use Rattle.br_core.proofs.open_restore.OpenRestore.go.Goals as goal

pub returns-in-Finish : goal.returns-in-Finish
returns-in-Finish c = subst (λ (m : Move). MovesIf (asked m) (moved m) c.args.self.now c.finish.new.self c.finish.result) (sym c.in-Finish.is) c.finish.ensures

pub returns-in-Read : goal.returns-in-Read
returns-in-Read c = subst (λ (m : Move). MovesIf (asked m) (moved m) c.args.self.now c.read.new.self c.read.result) (sym c.in-Read.is) c.read.ensures
