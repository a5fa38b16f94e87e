use Rattle.std.proofs.Common.{ap, ◌∙◌, sym, subst, [], arith}
use Rattle.std.proofs.lemmas.Result.{on_ok_weaker}
use Rattle.sqlite.specs.Held.{state}
use Rattle.sqlite.specs.State.{HasCleanDisk}
use Rattle.sqlite.specs.Order.{Row}
use Rattle.br_model.specs.Job.{FileRow}
use Rattle.br_catalog_rows.specs.Decode.{front, rest, digest_text}
use Rattle.br_catalog_rows.specs.Rows.{with_file_row}
use Rattle.br_store.specs.Held.{Wrote, rows_in}
use Rattle.br_store.proofs.Writes.{wrote_after, file_row_is}
use Rattle.br_store.proofs.job_writing.put_file.Goals as goal

pub returns-in-Some-clause-added : goal.returns-in-Some-clause-added
unfolding digest_text
returns-in-Some-clause-added g c clean inside tables =
    let a = state g.S.Store c.args.tx.now.conn.now in
    let b = state g.S.Store c.name_id.new.tx.conn.now in
    let z = state g.S.Store c.put_file_row.new.tx.conn.now in
    let clean_b : HasCleanDisk b = omega (arith, clean, c.put_file_row.ensures.survives.clean) in
    let first = c.in_ok-path.ensures.found clean_b inside tables in
    let bytes = c.bytes.ensures.same ∙ ap (λ (f : FileRow). f.path) c.file.view_is in
    let is = file_row_is c.args.job c.args.file.now _ _ _ _ _ (ap (λ (f : FileRow). f.index) c.file.view_is) (c.cut.ensures.front ∙ ap front bytes) (c.cut.ensures.rest ∙ ap rest bytes)
    (c.as_bytes-lstat.ensures.value ∙ ap (λ (f : FileRow). f.lstat) c.file.view_is)
    (c.digits_of.ensures ∙ ap digest_text (sym c.in-Some.is ∙ ap (λ (f : FileRow). f.digest) c.file.view_is)) in
    on_ok_weaker c.put_file_row.result (λ done.
    subst (λ (r : Row). Wrote (with_file_row r (rows_in a.now.trees)) a z) is
    (wrote_after (with_file_row _) a b z first.0 done))
    (c.put_file_row.ensures.added clean first.0.mode first.0.tables _ first.1)

pub returns-in-None-clause-added : goal.returns-in-None-clause-added
unfolding digest_text
returns-in-None-clause-added g c clean inside tables =
    let a = state g.S.Store c.args.tx.now.conn.now in
    let b = state g.S.Store c.name_id.new.tx.conn.now in
    let z = state g.S.Store c.put_file_row-in-None.new.tx.conn.now in
    let clean_b : HasCleanDisk b = omega (arith, clean, c.put_file_row-in-None.ensures.survives.clean) in
    let first = c.in_ok-path.ensures.found clean_b inside tables in
    let bytes = c.bytes.ensures.same ∙ ap (λ (f : FileRow). f.path) c.file.view_is in
    let is = file_row_is c.args.job c.args.file.now _ _ _ _ [] (ap (λ (f : FileRow). f.index) c.file.view_is) (c.cut.ensures.front ∙ ap front bytes) (c.cut.ensures.rest ∙ ap rest bytes)
    (c.as_bytes-lstat.ensures.value ∙ ap (λ (f : FileRow). f.lstat) c.file.view_is)
    (ap digest_text (sym c.in-None.is ∙ ap (λ (f : FileRow). f.digest) c.file.view_is)) in
    on_ok_weaker c.put_file_row-in-None.result (λ done.
    subst (λ (r : Row). Wrote (with_file_row r (rows_in a.now.trees)) a z) is
    (wrote_after (with_file_row _) a b z first.0 done))
    (c.put_file_row-in-None.ensures.added clean first.0.mode first.0.tables _ first.1)
