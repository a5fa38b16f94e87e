use Rattle.std.proofs.Common.{◌≡◌, take, IsTrue}
use Rattle.std.specs.List.{AllByRecursion}
use Rattle.sqlite.specs.State.{HasCleanDisk, Survives}
use Rattle.sqlite.specs.Held.{state}
use Rattle.br_catalog_rows.specs.Rows.{with_files}
use Rattle.br_catalog_rows.specs.Inserted.{IsFileRow}
use Rattle.br_store.specs.Held.{HasTables, Wrote, rows_in}
use Rattle.br_store.proofs.job_writing.put_files.Given as goal

abbrev pub invariant-loop-file : goal.invariant-loop-file
invariant-loop-file g l =
    (l.tx.conn.ghost_name ≡ l.initial.tx.conn.ghost_name)
    × Survives (state g.S.Store l.initial.tx.conn.now) (state g.S.Store l.tx.conn.now) (λ _. ⊥)
    × AllByRecursion IsFileRow (take l.file-index l.files)
    × (HasCleanDisk (state g.S.Store l.tx.conn.now) → IsTrue l.initial.tx.conn.now.in_transaction → HasTables (state g.S.Store l.initial.tx.conn.now).now
    → Wrote (with_files l.job (take l.file-index l.files) (rows_in (state g.S.Store l.initial.tx.conn.now).now.trees)) (state g.S.Store l.initial.tx.conn.now) (state g.S.Store l.tx.conn.now))
