use Rattle.std.proofs.Common.{rules, IsTrue, refl, sym, subst, arith}
use Rattle.sqlite.specs.Held.{state}
use Rattle.sqlite.specs.State.{HasCleanDisk, Survives}
use Rattle.br_catalog_rows.specs.Inserted.{Adds}
use Rattle.br_store.specs.Held.{HasTables, rows_in}
use Rattle.br_store.proofs.Appends.{commits_added}
use Rattle.br_store.proofs.store.insert_all.Goals as goal

pub returns-clause-crash : goal.returns-clause-crash
returns-clause-crash g c =
    let a = state g.S.Store c.args.conn.now in
    let mid = state g.S.Store c.write_job.new.tx.conn.now in
    let begun = c.transaction-tx.ensures.begun in
    let wrote = subst (λ h. Survives (state g.S.Store h) mid (λ _. ⊥)) begun c.write_job.ensures.survives in
    let first : Survives a mid (λ _. ⊥) =
    record { clean = wrote.clean; shield = wrote.shield; counts = wrote.counts; limit = wrote.limit; closes = wrote.closes; crash = wrote.crash } in
    let added : HasCleanDisk mid → HasTables mid.now × Adds c.args.job.now (rows_in a.now.trees) (rows_in mid.now.trees) =
    λ clean.
    let inside = subst (λ h. IsTrue h.in_transaction) (sym begun) refl in
    let tables = subst (λ h. HasTables (state g.S.Store h).now) (sym begun) (c.requires.tables (omega (arith, clean, first.clean))) in (
      (c.in_ok-write_job.ensures.added clean inside tables).tables,
      subst (λ h. Adds c.args.job.now (rows_in (state g.S.Store h).now.trees) (rows_in mid.now.trees)) begun (c.in_ok-write_job.ensures.adds clean inside tables),
    ) in
    let all = commits_added c.args.job.now a.now a mid _ first c.commit.ensures.survives added in
    search (rules, all)
