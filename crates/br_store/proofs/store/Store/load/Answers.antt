use Rattle.std.proofs.Common.{◌≡◌, ap, sym, subst, ◌∙◌}
use Rattle.sqlite.specs.Held.{state}
use Rattle.sqlite.specs.State.{Survives}
use Rattle.br_model.specs.Answer.{IsRefusal}
use Rattle.br_catalog_rows.specs.Fault.{cause, rows_cause}
use Rattle.br_catalog_rows.specs.Load.{read_history}
use Rattle.br_store.specs.Held.{looked_at, rows_of}
use Rattle.br_store.proofs.Loads.{refused_by_rows}
use Rattle.br_store.proofs.store.Store.load.Goals as goal

pub returns-in-Ok-clause-same : goal.returns-in-Ok-clause-same
returns-in-Ok-clause-same g c clean up =
    let new = state g.S.Store c.read.new.conn in
    subst (λ h. (new.now ≡ (state g.S.Store h).now) × (new.committed ≡ (state g.S.Store h).committed)) c.self.view_is (c.read.ensures.same clean up)

pub returns-in-Ok-clause-survives : goal.returns-in-Ok-clause-survives
returns-in-Ok-clause-survives g c = subst (λ h. Survives (state g.S.Store h) (state g.S.Store c.read.new.conn) (λ _. ⊥)) c.self.view_is c.read.ensures.survives

pub returns-clause-same : goal.returns-clause-same
returns-clause-same g c clean up =
    let new = state g.S.Store c.read.new.conn in
    subst (λ h. (new.now ≡ (state g.S.Store h).now) × (new.committed ≡ (state g.S.Store h).committed)) c.self.view_is (c.read.ensures.same clean up)

pub returns-clause-survives : goal.returns-clause-survives
returns-clause-survives g c = subst (λ h. Survives (state g.S.Store h) (state g.S.Store c.read.new.conn) (λ _. ⊥)) c.self.view_is c.read.ensures.survives

pub returns-in-Ok-clause-answers : goal.returns-in-Ok-clause-answers
returns-in-Ok-clause-answers g c clean =
    sym (ap read_history (c.in_ok-rows.ensures.rows clean ∙ ap (λ h. looked_at c.args.wanted (rows_of g.S.Store h)) c.self.view_is)) ∙ c.in-Ok.ensures

pub returns-clause-answers : goal.returns-clause-answers
returns-clause-answers g c clean =
    let rows = c.in_ok-rows.ensures.rows clean ∙ ap (λ h. looked_at c.args.wanted (rows_of g.S.Store h)) c.self.view_is in
    let h = read_history (looked_at c.args.wanted (rows_of g.S.Store c.args.self.now)) in
    let refused = subst (λ r. IsRefusal (rows_cause c.in-Err.fault) (read_history r)) rows c.in-Err.ensures in
    subst (λ e. IsRefusal (cause e) h) (sym c.store_fault.ensures.same) (refused_by_rows c.in-Err.fault h refused)

pub returns-in_err-rows-clause-same : goal.returns-in_err-rows-clause-same
returns-in_err-rows-clause-same g c clean up =
    let new = state g.S.Store c.read.new.conn in
    subst (λ h. (new.now ≡ (state g.S.Store h).now) × (new.committed ≡ (state g.S.Store h).committed)) c.self.view_is (c.read.ensures.same clean up)

pub returns-in_err-rows-clause-survives : goal.returns-in_err-rows-clause-survives
returns-in_err-rows-clause-survives g c = subst (λ h. Survives (state g.S.Store h) (state g.S.Store c.read.new.conn) (λ _. ⊥)) c.self.view_is c.read.ensures.survives
