use Rattle.std.proofs.Common.{ap, subst, ◌∙◌}
use Rattle.sqlite.specs.Held.{state}
use Rattle.sqlite.specs.State.{Survives}
use Rattle.br_catalog_rows.specs.WrongRows.{TellsWrong}
use Rattle.br_store.specs.Held.{rows_of}
use Rattle.br_store.proofs.store.Store.find_wrong.Goals as goal

pub returns-in-Ok-clause-wrong : goal.returns-in-Ok-clause-wrong
returns-in-Ok-clause-wrong g c clean =
    subst (λ rows. TellsWrong rows c.in-Ok.wrong) (c.in_ok-rows.ensures.rows clean ∙ ap (λ h. rows_of g.S.Store h) c.self.view_is) c.in-Ok.ensures

pub returns-in-Ok-clause-survives : goal.returns-in-Ok-clause-survives
returns-in-Ok-clause-survives g c = subst (λ h. Survives (state g.S.Store h) (state g.S.Store c.read.new.conn) (λ _. ⊥)) c.self.view_is c.read.ensures.survives

pub returns-clause-survives : goal.returns-clause-survives
returns-clause-survives g c = subst (λ h. Survives (state g.S.Store h) (state g.S.Store c.read.new.conn) (λ _. ⊥)) c.self.view_is c.read.ensures.survives

pub returns-in_err-rows-clause-survives : goal.returns-in_err-rows-clause-survives
returns-in_err-rows-clause-survives g c = subst (λ h. Survives (state g.S.Store h) (state g.S.Store c.read.new.conn) (λ _. ⊥)) c.self.view_is c.read.ensures.survives
