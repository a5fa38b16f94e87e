use Rattle.std.proofs.Common.{◌∙◌, arith}
use Rattle.sqlite.specs.Held.{state}
use Rattle.br_catalog_tables.specs.Tables.{create_job, create_job_media, create_file, job, job_media, file, five_tables, six_tables, seven_tables, new_schema}
use Rattle.br_store.proofs.Makes.{makes_job, makes_job_media, makes_file, after_job, after_job_media, after_file}
use Rattle.br_store.proofs.Creates.{emptied_more}
use Rattle.br_store.proofs.tables.make_rows.Goals as goal

pub returns-clause-made : goal.returns-clause-made
returns-clause-made g c clean inside was =
    let start = state g.S.Store c.args.tx.now.conn.now in
    let first = state g.S.Store c.execute.new.self.conn.now in
    let second = state g.S.Store c.execute-2.new.self.conn.now in
    let third = state g.S.Store c.execute-3.new.self.conn.now in
    let one = c.in_ok-execute.ensures.runs (omega (arith, c.execute-2.ensures.survives.clean, c.execute-3.ensures.survives.clean)) inside in
    let two = c.in_ok-execute-2.ensures.runs (omega (arith, c.execute-3.ensures.survives.clean)) one.1.mode in
    let three = c.in_ok-execute-3.ensures.runs clean two.1.mode in
    record {
      was_open = λ up. one.1.was_open;
      mode = three.1.mode;
      committed = three.1.committed_is ∙ two.1.committed_is ∙ one.1.committed_is;
      emptied = emptied_more seven_tables new_schema create_file (file 13) second third c.in_ok-execute-3.field-0 makes_file after_file
          (emptied_more six_tables seven_tables create_job_media (job_media 11) first second c.in_ok-execute-2.field-0 makes_job_media after_job_media
          (emptied_more five_tables six_tables create_job (job 9) start first c.in_ok-execute.field-0 makes_job after_job was one.0) two.0) three.0;
    }
