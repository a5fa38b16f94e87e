use Rattle.std.proofs.Common.{◌≡◌}
use Rattle.sqlite.specs.State.{HasCleanDisk, Survives}
use Rattle.sqlite.specs.Held.{state}
use Rattle.br_store.specs.Calls.{StaysIdle}
use Rattle.br_store.proofs.SomeFiles.{HasKept}
use Rattle.br_store.proofs.queries.files_of.Given as goal

-- the rows of these jobs so far are kept, and nothing was changed
abbrev pub invariant-rows : goal.invariant-rows
invariant-rows g l =
    let old = state g.S.Store l.fn.conn in
    let now = state g.S.Store l.rows.conn.now in
    (l.rows.conn.ghost_name ≡ l.initial.rows.conn.ghost_name) × Survives old now (λ _. ⊥) × StaysIdle l.fn.conn l.rows.conn.now
    × (HasCleanDisk now → HasKept g.S.Store l.jobs l.fn.conn l.rows.conn.now l.kept.items)
