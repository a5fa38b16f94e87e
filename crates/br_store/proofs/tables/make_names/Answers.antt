use Rattle.std.proofs.Common.{◌∙◌, arith}
use Rattle.sqlite.specs.Held.{state}
use Rattle.br_catalog_tables.specs.Tables.{create_media, create_path, media, path, three_tables, four_tables, five_tables}
use Rattle.br_store.proofs.Makes.{makes_media, makes_path, after_media, after_path}
use Rattle.br_store.proofs.Creates.{emptied_more}
use Rattle.br_store.proofs.tables.make_names.Goals as goal

pub returns-clause-made : goal.returns-clause-made
returns-clause-made g c clean inside was =
    let start = state g.S.Store c.args.tx.now.conn.now in
    let first = state g.S.Store c.execute.new.self.conn.now in
    let second = state g.S.Store c.execute-2.new.self.conn.now in
    let one = c.in_ok-execute.ensures.runs (omega (arith, c.execute-2.ensures.survives.clean)) inside in
    let two = c.in_ok-execute-2.ensures.runs clean one.1.mode in
    record {
      was_open = λ up. one.1.was_open;
      mode = two.1.mode;
      committed = two.1.committed_is ∙ one.1.committed_is;
      emptied = emptied_more four_tables five_tables create_path (path 7) first second c.in_ok-execute-2.field-0 makes_path after_path
          (emptied_more three_tables four_tables create_media (media 5) start first c.in_ok-execute.field-0 makes_media after_media was one.0) two.0;
    }
