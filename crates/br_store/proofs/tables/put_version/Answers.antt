use Rattle.sqlite.specs.Held.{state}
use Rattle.br_catalog_tables.specs.TreePlaces.{new_layout}
use Rattle.br_catalog_tables.specs.Tables.{new_schema}
use Rattle.br_catalog_tables.specs.KnownSchemas.{no_owns}
use Rattle.br_store.proofs.Lookups.{new_stands}
use Rattle.br_store.proofs.Inserts.{puts_version}
use Rattle.br_store.proofs.Creates.{made_version}
use Rattle.br_store.proofs.tables.put_version.Goals as goal

pub returns-clause-made : goal.returns-clause-made
returns-clause-made g c clean inside was =
    let old = state g.S.Store c.args.tx.now.conn.now in
    let new = state g.S.Store c.execute.new.self.conn.now in
    let ran = c.in_ok-execute.ensures.runs clean inside in
    let put = puts_version new_schema new_layout no_owns new_stands old new c.in_ok-execute.field-0 was.is ran.0 in
    record {
      was_open = λ up. ran.1.was_open;
      mode = ran.1.mode;
      committed = ran.1.committed_is;
      made = made_version old.now new.now was put.0 put.1;
    }
