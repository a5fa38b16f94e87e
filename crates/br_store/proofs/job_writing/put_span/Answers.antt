use Rattle.std.proofs.Common.{ap, ◌∙◌, subst, [], ◌∷◌, arith}
use Rattle.std.proofs.lemmas.Result.{on_ok_weaker}
use Rattle.sqlite.specs.Held.{state}
use Rattle.sqlite.specs.State.{HasCleanDisk}
use Rattle.br_model.specs.Job.{Span}
use Rattle.br_store.specs.declared.name_numbers.Dictionary.TheVariants.{Media}
use Rattle.br_catalog_rows.specs.Rows.{with_spans}
use Rattle.br_store.specs.Held.{IsName}
use Rattle.br_store.proofs.Writes.{wrote_after}
use Rattle.br_store.proofs.job_writing.put_span.Goals as goal

pub returns-clause-added : goal.returns-clause-added
returns-clause-added g c clean inside tables =
    let a = state g.S.Store c.args.tx.now.conn.now in
    let b = state g.S.Store c.name_id.new.tx.conn.now in
    let z = state g.S.Store c.put_span_row.new.tx.conn.now in
    let clean_b : HasCleanDisk b = omega (arith, clean, c.put_span_row.ensures.survives.clean) in
    let found = c.in_ok-media.ensures.found clean_b inside tables in
    let named = subst (λ n. IsName b.now.trees Media n c.in_ok-media.media) (c.bytes.ensures.same ∙ ap (λ (s : Span). s.volume) c.span.view_is) found.1 in
    on_ok_weaker c.put_span_row.result (λ done. wrote_after (with_spans c.args.job (c.args.span.now ∷ [])) a b z found.0 done)
    (c.put_span_row.ensures.added clean found.0.mode found.0.tables named)
