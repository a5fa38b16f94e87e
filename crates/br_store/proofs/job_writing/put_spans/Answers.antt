use Rattle.std.proofs.Common.{rules, arith, take, subst, sym, ap, ◌≡◌, ◌+◌, ◌++◌, ◌∷◌, [], ◌∙◌}
use Rattle.std.proofs.lemmas.List.{take_more}
use Rattle.std.specs.List.{AllByRecursion}
use Rattle.sqlite.specs.Held.{state}
use Rattle.br_catalog_rows.specs.Rows.{with_spans}
use Rattle.br_catalog_rows.specs.Inserted.{IsSpan}
use Rattle.br_store.specs.Held.{Wrote, rows_in}
use Rattle.br_store.proofs.Appends.{all_push, survives_both}
use Rattle.br_store.proofs.Writes.{wrote_next, wrote_as, one_span_more, kept_then}
use Rattle.br_store.proofs.job_writing.put_spans.Goals as goal

pub returns-in_err-put_span-clause-kept : goal.returns-in_err-put_span-clause-kept
returns-in_err-put_span-clause-kept g c clean inside tables =
    let a = state g.S.Store c.args.tx.now.conn.now in
    let b = state g.S.Store c.loop-span.tx.conn.now in
    let d = state g.S.Store c.put_span.new.tx.conn.now in
    let so = c.loop-span.invariant.3 (omega (arith, c.put_span.ensures.survives.clean)) inside tables in
    let kept = c.in_err-put_span.ensures.kept clean so.mode so.tables in
    search (rules, kept_then (with_spans c.args.job (take c.loop-span.span-index c.args.spans.now) (rows_in a.now.trees)) a b d so kept)

pub loop-span-preserved : goal.loop-span-preserved
loop-span-preserved g c =
    let a = state g.S.Store c.args.tx.now.conn.now in
    let b = state g.S.Store c.loop-span.tx.conn.now in
    let d = state g.S.Store c.put_span.new.tx.conn.now in
    let item = c.span-item.result in
    let before = take c.loop-span.span-index c.args.spans.now in
    let more : take (c.loop-span.span-index + 1) c.args.spans.now ≡ before ++ item ∷ [] =
    take_more c.args.spans.now c.loop-span.span-index item (omega (arith, c.loop-span-test.true)) ∙ ap (λ x. before ++ x ∷ []) (sym c.span-item.is) in (
      search rules,
      survives_both a b d c.loop-span.invariant.1 c.put_span.ensures.survives,
      subst (AllByRecursion IsSpan) (sym more) (all_push IsSpan before item c.loop-span.invariant.2 c.span_is_whole.ensures),
      λ clean inside tables.
          let so = c.loop-span.invariant.3 (omega (arith, c.put_span.ensures.survives.clean)) inside tables in
          let on = c.in_ok-put_span.ensures.added clean so.mode so.tables in
          let next = wrote_next (with_spans c.args.job before) (with_spans c.args.job (item ∷ [])) (rows_in a.now.trees) a b d so on in
          subst (λ l. Wrote (with_spans c.args.job l (rows_in a.now.trees)) a d) (sym more) (wrote_as _ _ a d (one_span_more c.args.job before item (rows_in a.now.trees)) next),
    )
