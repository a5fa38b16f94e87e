use Rattle.std.proofs.Common.{pos, refl}
use Rattle.sqlite.specs.Held.{state}
use Rattle.br_store.specs.Held.{layout_in}
use Rattle.br_store.proofs.Inserts.{puts_file}
use Rattle.br_store.proofs.Writes.{wrote_file}
use Rattle.br_store.proofs.job_writing.put_file_row.Goals as goal

pub returns-clause-added : goal.returns-clause-added
returns-clause-added g c clean inside tables front is_path =
    let old = state g.S.Store c.args.tx.now.conn.now in
    let new = state g.S.Store c.execute.new.self.conn.now in
    let parts = c.args.parts.now in
    let ran = rw (c.to_sql.ensures, c.to_sql-2.ensures, c.to_sql-3.ensures) at (c.in_ok-execute.ensures.runs clean inside) in
    let put = puts_file old.now.schema (layout_in old.now.trees) tables.own tables.schema old new (pos c.args.index) (pos c.args.job) (pos parts.path) parts.rest.now c.args.lstat.now c.args.digest.now c.in_ok-execute.field-0 refl ran.0 in
    wrote_file c.args.index c.args.job parts.path front parts.rest.now c.args.lstat.now c.args.digest.now old new tables ran.1 is_path put.0 put.1
