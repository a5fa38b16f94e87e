use Rattle.std.proofs.Common.{rules, arith, take, subst, sym, ap, ◌≡◌, ◌+◌, ◌++◌, ◌∷◌, [], ◌∙◌}
use Rattle.std.proofs.lemmas.List.{take_more}
use Rattle.std.specs.List.{AllByRecursion}
use Rattle.sqlite.specs.Held.{state}
use Rattle.br_catalog_rows.specs.Rows.{with_files}
use Rattle.br_catalog_rows.specs.Inserted.{IsFileRow}
use Rattle.br_store.specs.Held.{Wrote, rows_in}
use Rattle.br_store.proofs.Appends.{all_push, survives_both}
use Rattle.br_store.proofs.Writes.{wrote_next, wrote_as, one_file_more, kept_then}
use Rattle.br_store.proofs.job_writing.put_files.Goals as goal

pub returns-in_err-put_file-clause-kept : goal.returns-in_err-put_file-clause-kept
returns-in_err-put_file-clause-kept g c clean inside tables =
    let a = state g.S.Store c.args.tx.now.conn.now in
    let b = state g.S.Store c.loop-file.tx.conn.now in
    let d = state g.S.Store c.put_file.new.tx.conn.now in
    let so = c.loop-file.invariant.3 (omega (arith, c.put_file.ensures.survives.clean)) inside tables in
    let kept = c.in_err-put_file.ensures.kept clean so.mode so.tables in
    search (rules, kept_then (with_files c.args.job (take c.loop-file.file-index c.args.files.now) (rows_in a.now.trees)) a b d so kept)

pub loop-file-preserved : goal.loop-file-preserved
loop-file-preserved g c =
    let a = state g.S.Store c.args.tx.now.conn.now in
    let b = state g.S.Store c.loop-file.tx.conn.now in
    let d = state g.S.Store c.put_file.new.tx.conn.now in
    let item = c.file-item.result in
    let before = take c.loop-file.file-index c.args.files.now in
    let more : take (c.loop-file.file-index + 1) c.args.files.now ≡ before ++ item ∷ [] =
    take_more c.args.files.now c.loop-file.file-index item (omega (arith, c.loop-file-test.true)) ∙ ap (λ x. before ++ x ∷ []) (sym c.file-item.is) in (
      search rules,
      survives_both a b d c.loop-file.invariant.1 c.put_file.ensures.survives,
      subst (AllByRecursion IsFileRow) (sym more) (all_push IsFileRow before item c.loop-file.invariant.2 c.file_is_whole.ensures),
      λ clean inside tables.
          let so = c.loop-file.invariant.3 (omega (arith, c.put_file.ensures.survives.clean)) inside tables in
          let on = c.in_ok-put_file.ensures.added clean so.mode so.tables in
          let next = wrote_next (with_files c.args.job before) (with_files c.args.job (item ∷ [])) (rows_in a.now.trees) a b d so on in
          subst (λ l. Wrote (with_files c.args.job l (rows_in a.now.trees)) a d) (sym more) (wrote_as _ _ a d (one_file_more c.args.job before item (rows_in a.now.trees)) next),
    )
