use Rattle.std.proofs.Common.{◌≡◌, arith, sym, subst, ◌∙◌}
use Rattle.std.proofs.lemmas.Result.{on_ok_weaker, on_err_weaker}
use Rattle.sqlite.specs.Effect.{Database}
use Rattle.sqlite.specs.State.{HasCleanDisk}
use Rattle.sqlite.specs.Held.{state}
use Rattle.sqlite.proofs.StateLemmas.{survives_then, survives_weaker}
use Rattle.br_catalog_rows.specs.Inserted.{Adds}
use Rattle.br_store.specs.Calls.{HasAdded}
use Rattle.br_store.specs.Held.{AddsMedia, HasTables, rows_in}
use Rattle.br_store.proofs.Ready.{err_with, from_both}
use Rattle.br_store.proofs.store.insert.Goals as goal

pub insert_all-requires-clause-idle : goal.insert_all-requires-clause-idle
insert_all-requires-clause-idle g c = c.ready.ensures.idle

pub insert_all-requires-clause-tables : goal.insert_all-requires-clause-tables
insert_all-requires-clause-tables g c clean =
    let same = c.ready.ensures.same clean (c.in_ok-ready.ensures.open clean) in
    subst HasTables (sym same.1) (c.requires.tables (omega (arith, clean, c.ready.ensures.survives.clean)) same.0)

pub returns-clause-catalogue : goal.returns-clause-catalogue
returns-clause-catalogue g c = record {
  idle = c.insert_all.ensures.idle;
  tables = λ clean up.
      let b = state g.S.Store c.ready.new.conn in
      let clean_b : HasCleanDisk b = omega (arith, clean, c.insert_all.ensures.crash.clean) in
      let same = c.ready.ensures.same clean_b (c.in_ok-ready.ensures.open clean_b) in
      from_both c.insert_all.result (c.insert_all.ensures.tables clean) (c.insert_all.ensures.refused clean up) (λ tables. tables)
      (λ kept. subst HasTables (sym (kept.0 ∙ same.1)) (c.requires.tables (omega (arith, clean_b, c.ready.ensures.survives.clean)) same.0));
}

pub returns-clause-added : goal.returns-clause-added
returns-clause-added g c clean =
    let b = state g.S.Store c.ready.new.conn in
    let z = state g.S.Store c.insert_all.new.conn in
    let clean_b : HasCleanDisk b = omega (arith, clean, c.insert_all.ensures.crash.clean) in
    let same = c.ready.ensures.same clean_b (c.in_ok-ready.ensures.open clean_b) in
    on_ok_weaker c.insert_all.result (subst (λ (db : Database). Adds c.args.job.now (rows_in db.trees) (rows_in z.now.trees)) same.1) (c.insert_all.ensures.added clean)

pub returns-clause-media : goal.returns-clause-media
returns-clause-media g c clean =
    let b = state g.S.Store c.ready.new.conn in
    let z = state g.S.Store c.insert_all.new.conn in
    let clean_b : HasCleanDisk b = omega (arith, clean, c.insert_all.ensures.crash.clean) in
    let same = c.ready.ensures.same clean_b (c.in_ok-ready.ensures.open clean_b) in
    on_ok_weaker c.insert_all.result (subst (λ (db : Database). AddsMedia db.trees z.now.trees) same.1) (c.insert_all.ensures.media clean)

pub returns-clause-refused : goal.returns-clause-refused
returns-clause-refused g c clean up =
    let b = state g.S.Store c.ready.new.conn in
    let clean_b : HasCleanDisk b = omega (arith, clean, c.insert_all.ensures.crash.clean) in
    let same = c.ready.ensures.same clean_b (c.in_ok-ready.ensures.open clean_b) in
    on_err_weaker c.insert_all.result (λ kept. (kept.0 ∙ same.1, kept.1 ∙ same.2)) (c.insert_all.ensures.refused clean up)

pub returns-clause-crash : goal.returns-clause-crash
returns-clause-crash g c =
    let a = state g.S.Store c.args.conn.now in
    let b = state g.S.Store c.ready.new.conn in
    let z = state g.S.Store c.insert_all.new.conn in
    survives_then a b z _ _ _ (λ clean db none. absurd none) (λ clean db adds.
    let clean_b : HasCleanDisk b = omega (arith, clean, c.insert_all.ensures.crash.clean) in
    let same = c.ready.ensures.same clean_b (c.in_ok-ready.ensures.open clean_b) in
    subst (λ (d : Database). HasAdded c.args.job.now d db) same.1 adds) c.ready.ensures.survives c.insert_all.ensures.crash

pub returns-in_err-ready-clause-catalogue : goal.returns-in_err-ready-clause-catalogue
returns-in_err-ready-clause-catalogue g c = record {
  idle = c.ready.ensures.idle;
  tables = λ clean up.
      let same = c.ready.ensures.same clean up in
      subst HasTables (sym same.1) (c.requires.tables (omega (arith, clean, c.ready.ensures.survives.clean)) same.0);
}

pub returns-in_err-ready-clause-refused : goal.returns-in_err-ready-clause-refused
returns-in_err-ready-clause-refused g c clean up =
    let old = state g.S.Store c.args.conn.now in
    let new = state g.S.Store c.ready.new.conn in
    let same = c.ready.ensures.same clean up in
    let kept : (new.now ≡ old.now) × (new.committed ≡ old.committed) = (same.1, same.2) in
    err_with _ kept

pub returns-in_err-ready-clause-crash : goal.returns-in_err-ready-clause-crash
returns-in_err-ready-clause-crash g c =
    survives_weaker (state g.S.Store c.args.conn.now) (state g.S.Store c.ready.new.conn) _ _ (λ clean db none. absurd none) c.ready.ensures.survives
