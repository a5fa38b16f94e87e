use Rattle.std.proofs.Common.{◌∙◌, arith}
use Rattle.sqlite.specs.Held.{state}
use Rattle.br_catalog_tables.specs.Tables.{create_version, create_client, create_fileset, version, client, fileset, no_schema, one_table, two_tables, three_tables}
use Rattle.br_store.proofs.Makes.{makes_version, makes_client, makes_fileset, after_version, after_client, after_fileset}
use Rattle.br_store.proofs.Creates.{emptied_more}
use Rattle.br_store.proofs.tables.make_first.Goals as goal

pub returns-clause-made : goal.returns-clause-made
returns-clause-made g c clean inside was =
    let start = state g.S.Store c.args.tx.now.conn.now in
    let first = state g.S.Store c.execute.new.self.conn.now in
    let second = state g.S.Store c.execute-2.new.self.conn.now in
    let third = state g.S.Store c.execute-3.new.self.conn.now in
    let one = c.in_ok-execute.ensures.runs (omega (arith, c.execute-2.ensures.survives.clean, c.execute-3.ensures.survives.clean)) inside in
    let two = c.in_ok-execute-2.ensures.runs (omega (arith, c.execute-3.ensures.survives.clean)) one.1.mode in
    let three = c.in_ok-execute-3.ensures.runs clean two.1.mode in
    record {
      was_open = λ up. one.1.was_open;
      mode = three.1.mode;
      committed = three.1.committed_is ∙ two.1.committed_is ∙ one.1.committed_is;
      emptied = emptied_more two_tables three_tables create_fileset (fileset 3) second third c.in_ok-execute-3.field-0 makes_fileset after_fileset
          (emptied_more one_table two_tables create_client (client 1) first second c.in_ok-execute-2.field-0 makes_client after_client
          (emptied_more no_schema one_table create_version (version 0) start first c.in_ok-execute.field-0 makes_version after_version was one.0) two.0) three.0;
    }
