use Rattle.std.proofs.Common.{◌≡◌, subst}
use Rattle.sqlite.specs.Held.{state}
use Rattle.br_catalog_rows.specs.Inserted.{Adds}
use Rattle.br_store.specs.Calls.{MayCommit}
use Rattle.br_store.specs.Held.{AddsMedia, rows_of}
use Rattle.br_store.proofs.Ready.{err_with}
use Rattle.br_store.proofs.store.Store.insert_job.Goals as goal

pub returns-clause-added : goal.returns-clause-added
returns-clause-added g c clean = subst (λ h. Adds c.args.job.now (rows_of g.S.Store h) (rows_of g.S.Store c.insert.new.conn)) c.self.view_is (c.in_ok-insert.ensures.added clean)

pub returns-clause-media : goal.returns-clause-media
returns-clause-media g c clean = subst (λ h. AddsMedia (state g.S.Store h).now.trees (state g.S.Store c.insert.new.conn).now.trees) c.self.view_is (c.in_ok-insert.ensures.media clean)

pub returns-clause-crash : goal.returns-clause-crash
returns-clause-crash g c =
    subst (λ h. MayCommit g.S.Store h c.insert.new.conn c.args.job.now) c.self.view_is c.insert.ensures.crash

pub returns-in_err-insert-clause-crash : goal.returns-in_err-insert-clause-crash
returns-in_err-insert-clause-crash g c =
    subst (λ h. MayCommit g.S.Store h c.insert.new.conn c.args.job.now) c.self.view_is c.insert.ensures.crash

pub returns-in_err-insert-clause-refused : goal.returns-in_err-insert-clause-refused
returns-in_err-insert-clause-refused g c clean up =
    let new = state g.S.Store c.insert.new.conn in
    err_with _ (subst (λ h. (new.now ≡ (state g.S.Store h).now) × (new.committed ≡ (state g.S.Store h).committed)) c.self.view_is (c.in_err-insert.ensures.refused clean up))
