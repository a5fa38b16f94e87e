use Rattle.std.proofs.Common.{pos, refl, subst, [], ◌∷◌}
use Rattle.sqlite.specs.Held.{state}
use Rattle.br_model.specs.Job.{Span}
use Rattle.br_store.specs.declared.name_numbers.Dictionary.TheVariants.{Media}
use Rattle.br_catalog_rows.specs.Decode.{high, low}
use Rattle.br_catalog_rows.specs.Rows.{with_spans}
use Rattle.br_store.specs.Held.{Wrote, IsName, layout_in, rows_in}
use Rattle.br_store.proofs.Inserts.{puts_span}
use Rattle.br_store.proofs.Writes.{wrote_span}
use Rattle.br_store.proofs.job_writing.put_span_row.Goals as goal

pub returns-clause-added : goal.returns-clause-added
returns-clause-added g c clean inside tables is_media =
    let old = state g.S.Store c.args.tx.now.conn.now in
    let new = state g.S.Store c.execute.new.self.conn.now in
    let i = c.span.inside in
    let ran = rw (
      c.to_sql.ensures,
      c.to_sql-2.ensures,
      c.to_sql-3.ensures,
      c.to_sql-4.ensures,
      c.to_sql-5.ensures,
      c.to_sql-6.ensures,
      c.to_sql-7.ensures,
      c.to_sql-8.ensures,
      c.to_sql-9.ensures,
      c.high_half.ensures,
      c.high_half-2.ensures,
      c.low_half.ensures,
      c.low_half-2.ensures,
    ) at (c.in_ok-execute.ensures.runs clean inside) in
    let put = puts_span old.now.schema (layout_in old.now.trees) tables.own tables.schema old new (pos c.args.job) (pos c.args.media) (pos i.first) (pos i.last) (pos (high i.start)) (pos (high i.end)) (pos (low i.start)) (pos (low i.end)) (pos i.vol_index) c.in_ok-execute.field-0 refl ran.0 in
    subst (λ (s : Span). IsName old.now.trees Media s.volume c.args.media → Wrote (with_spans c.args.job (s ∷ []) (rows_in old.now.trees)) old new) c.span.view_is
    (λ is. wrote_span c.args.job _ c.args.media old new tables ran.1 is put.0 put.1)
    is_media
