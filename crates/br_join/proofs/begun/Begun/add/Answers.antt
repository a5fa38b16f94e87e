use Rattle.std.proofs.Common.{sym, ◌∙◌}
use Rattle.br_join.proofs.FrontLaws.{leaves, passes}
use Rattle.br_join.proofs.begun.Begun.add.Goals as goal

pub returns-then-not-is_short : goal.returns-then-not-is_short
returns-then-not-is_short c = λ _ held begun. passes held c.args.hit.now c.args.self.now c.pass.new.self begun (sym c.is_short.ensures ∙ c.if-not-is_short.true) c.pass.ensures

pub go_on-requires-clause-past : goal.go_on-requires-clause-past
go_on-requires-clause-past c = sym c.is_past.ensures ∙ c.if-not-is_past.false

pub go_on-requires-clause-short : goal.go_on-requires-clause-short
go_on-requires-clause-short c = sym c.is_short.ensures ∙ c.if-not-is_short.false

pub returns-then-is_wanted : goal.returns-then-is_wanted
returns-then-is_wanted c = c.go_on.ensures

pub returns : goal.returns
returns c = λ _ held begun.
    leaves held c.args.hit.now c.args.self.now c.leave.new.self begun (sym c.is_past.ensures ∙ c.if-not-is_past.false) (sym c.is_short.ensures ∙ c.if-not-is_short.false) c.leave.ensures
