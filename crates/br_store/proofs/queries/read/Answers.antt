use Rattle.std.proofs.Common.{arith, ap, sym, subst, ◌∙◌}
use Rattle.std.proofs.lemmas.Result.{IfOk-weaker, on_ok_weaker}
use Rattle.sqlite.specs.Effect.{Database}
use Rattle.sqlite.specs.State.{HasCleanDisk}
use Rattle.sqlite.specs.Held.{state}
use Rattle.br_store.specs.Held.{HasTables, looked_at, rows_in}
use Rattle.br_store.proofs.Appends.{survives_both}
use Rattle.br_store.proofs.Ready.{from_both, stays, stays_both}
use Rattle.br_store.proofs.Selects.{unchanged_keeps}
use Rattle.br_store.proofs.queries.read.Goals as goal

pub catalogue_rows-rows-requires : goal.catalogue_rows-rows-requires
catalogue_rows-rows-requires g c clean =
    let same = c.ready.ensures.same clean (c.in_ok-ready.ensures.open clean) in
    subst HasTables (sym same.1) (c.requires.tables (omega (arith, clean, c.ready.ensures.survives.clean)) same.0)

pub returns-clause-same : goal.returns-clause-same
returns-clause-same g c clean up =
    let a = state g.S.Store c.args.conn.now in
    let b = state g.S.Store c.ready.new.conn in
    let z = state g.S.Store c.catalogue_rows-rows.new.conn in
    let clean_b : HasCleanDisk b = omega (arith, clean, c.catalogue_rows-rows.ensures.survives.clean) in
    let kept = from_both c.catalogue_rows-rows.result (c.catalogue_rows-rows.ensures.same clean) (c.catalogue_rows-rows.ensures.kept clean) (unchanged_keeps b z) (λ k. k) in
    let later = stays b z (c.idle_is_settled.ensures c.ready.ensures.idle) (c.idle_is_settled-2.ensures (c.catalogue_rows-rows.ensures.idle c.ready.ensures.idle)) kept in
    let all = stays_both a b z (c.ready.ensures.same clean_b) later up in
    (all.1, all.2)

pub returns-clause-catalogue : goal.returns-clause-catalogue
returns-clause-catalogue g c = record {
  idle = c.catalogue_rows-rows.ensures.idle c.ready.ensures.idle;
  tables = λ clean up.
      let a = state g.S.Store c.args.conn.now in
      let b = state g.S.Store c.ready.new.conn in
      let z = state g.S.Store c.catalogue_rows-rows.new.conn in
      let clean_b : HasCleanDisk b = omega (arith, clean, c.catalogue_rows-rows.ensures.survives.clean) in
      let kept = from_both c.catalogue_rows-rows.result (c.catalogue_rows-rows.ensures.same clean) (c.catalogue_rows-rows.ensures.kept clean) (unchanged_keeps b z) (λ k. k) in
      let later = stays b z (c.idle_is_settled.ensures c.ready.ensures.idle) (c.idle_is_settled-2.ensures (c.catalogue_rows-rows.ensures.idle c.ready.ensures.idle)) kept in
      let all = stays_both a b z (c.ready.ensures.same clean_b) later up in
      subst HasTables (sym all.1) (c.requires.tables (omega (arith, clean_b, c.ready.ensures.survives.clean)) all.0);
}

pub returns-clause-rows : goal.returns-clause-rows
returns-clause-rows g c clean =
    let b = state g.S.Store c.ready.new.conn in
    let clean_b : HasCleanDisk b = omega (arith, clean, c.catalogue_rows-rows.ensures.survives.clean) in
    let same = c.ready.ensures.same clean_b (c.in_ok-ready.ensures.open clean_b) in
    IfOk-weaker c.catalogue_rows-rows.result _ _ (λ rows is. is ∙ ap (λ (db : Database). looked_at c.args.wanted (rows_in db.trees)) same.1) (c.catalogue_rows-rows.ensures.rows clean)

pub returns-clause-open : goal.returns-clause-open
returns-clause-open g c clean = on_ok_weaker c.catalogue_rows-rows.result (λ same. same.0.is_open) (c.catalogue_rows-rows.ensures.same clean)

pub returns-clause-survives : goal.returns-clause-survives
returns-clause-survives g c =
    survives_both (state g.S.Store c.args.conn.now) (state g.S.Store c.ready.new.conn) (state g.S.Store c.catalogue_rows-rows.new.conn) c.ready.ensures.survives c.catalogue_rows-rows.ensures.survives

pub returns-in_err-ready-clause-catalogue : goal.returns-in_err-ready-clause-catalogue
returns-in_err-ready-clause-catalogue g c = record {
  idle = c.ready.ensures.idle;
  tables = λ clean up.
      let same = c.ready.ensures.same clean up in
      subst HasTables (sym same.1) (c.requires.tables (omega (arith, clean, c.ready.ensures.survives.clean)) same.0);
}

pub returns-in_err-ready-clause-same : goal.returns-in_err-ready-clause-same
returns-in_err-ready-clause-same g c clean up = let same = c.ready.ensures.same clean up in (same.1, same.2)
