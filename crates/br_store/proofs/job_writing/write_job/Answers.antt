use Rattle.std.proofs.Common.{◌≡◌, true, ap, subst, ◌∙◌, arith}
use Rattle.std.specs.List.{AllByRecursion}
use Rattle.std.proofs.lemmas.Result.{on_ok_weaker}
use Rattle.sqlite.specs.Held.{state}
use Rattle.sqlite.specs.State.{HasCleanDisk}
use Rattle.br_model.specs.Job.{JobRow, is_job_row}
use Rattle.br_catalog_rows.specs.Rows.{with_job, with_spans, with_files}
use Rattle.br_catalog_rows.specs.Inserted.{IsFileRow, IsNewIn, IsSpan}
use Rattle.br_store.specs.Held.{rows_in}
use Rattle.br_store.proofs.Writes.{on_ok_both, wrote_next, wrote_as, rows_are_all}
use Rattle.br_store.proofs.job_writing.write_job.Goals as goal

pub returns-clause-added : goal.returns-clause-added
returns-clause-added g c clean inside tables =
    let j = c.args.rows.now in
    let a = state g.S.Store c.args.tx.now.conn.now in
    let b = state g.S.Store c.put_job.new.tx.conn.now in
    let d = state g.S.Store c.put_spans.new.tx.conn.now in
    let z = state g.S.Store c.put_files.new.tx.conn.now in
    let clean_d : HasCleanDisk d = omega (arith, clean, c.put_files.ensures.survives.clean) in
    let clean_b : HasCleanDisk b = omega (arith, clean_d, c.put_spans.ensures.survives.clean) in
    let id = c.get-id.result in
    let first = (c.in_ok-put_job.ensures.added clean_b inside tables).0 in
    let second = c.in_ok-put_spans.ensures.added clean_d first.mode first.tables in
    let both = wrote_next (with_job c.row-3.result.now) (with_spans id c.spans.result.now) (rows_in a.now.trees) a b d first second in
    let id_is = c.get-id.ensures.same ∙ ap (λ (r : JobRow). r.id) c.behind-rows.view_is ∙ ap (λ (r : JobRow). r.id) c.row.ensures.same in
    on_ok_weaker c.put_files.result (λ done.
    wrote_as _ _ a z (rows_are_all j id c.row-3.result.now c.spans.result.now c.files.result.now (rows_in a.now.trees) id_is c.row-3.ensures.same c.spans.ensures.same c.files.ensures.same)
    (wrote_next (λ r. with_spans id c.spans.result.now (with_job c.row-3.result.now r)) (with_files id c.files.result.now) (rows_in a.now.trees) a d z both done))
    (c.put_files.ensures.added clean second.mode second.tables)

pub returns-clause-adds : goal.returns-clause-adds
returns-clause-adds g c clean inside tables =
    let j = c.args.rows.now in
    let old = state g.S.Store c.args.tx.now.conn.now in
    let b = state g.S.Store c.put_job.new.tx.conn.now in
    let d = state g.S.Store c.put_spans.new.tx.conn.now in
    let clean_d : HasCleanDisk d = omega (arith, clean, c.put_files.ensures.survives.clean) in
    let clean_b : HasCleanDisk b = omega (arith, clean_d, c.put_spans.ensures.survives.clean) in
    let fresh = (c.in_ok-put_job.ensures.added clean_b inside tables).1 in
    on_ok_both c.put_files.result (λ wrote files. record {
      whole = record {
        row = subst (λ r. is_job_row r ≡ true) c.row-2.ensures.same c.job_is_whole.ensures;
        files = subst (AllByRecursion IsFileRow) c.files.ensures.same files;
        spans = subst (AllByRecursion IsSpan) c.spans.ensures.same c.in_ok-put_spans.ensures.whole;
        fit = c.row.ensures.valid;
      };
      fresh = subst (λ r. IsNewIn r (rows_in old.now.trees)) c.row-3.ensures.same fresh;
      rows = wrote.has;
    }) (returns-clause-added g c clean inside tables) c.put_files.ensures.whole
