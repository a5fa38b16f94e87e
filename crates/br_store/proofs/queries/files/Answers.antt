use Rattle.std.proofs.Common.{refl, [], inl, arith, subst}
use Rattle.sqlite.proofs.StateLemmas.{survives_weaker}
use Rattle.sqlite.proofs.Callers.{never_commits}
use Rattle.std.proofs.lemmas.Result.{IfOk-weaker, IfErr-weaker}
use Rattle.sqlite.specs.Held.{state}
use Rattle.sqlite.specs.State.{CommitsShowing}
use Rattle.br_store.specs.Held.{layout_in}
use Rattle.br_store.proofs.Asks.{select_files, files_query, file_names}
use Rattle.br_store.proofs.FileTexts.{select_files_is}
use Rattle.br_store.proofs.Selects.{shown_same, failure_keeps, answers}
use Rattle.br_store.proofs.Loads.{files_shown}
use Rattle.br_store.proofs.queries.files.Goals as goal

pub returns-clause-rows : goal.returns-clause-rows
returns-clause-rows g c clean =
    let old = state g.S.Store c.args.conn.now in
    let new = state g.S.Store c.query_all.new.self in
    let tables = c.requires (omega (arith, clean, c.query_all.ensures.survives.clean)) in
    let l = layout_in old.now.trees in
    let is = select_files_is old.now.schema l tables.own tables.schema in
    IfOk-weaker c.query_all.result _ _ (λ rows shown.
    files_shown old.now rows.items tables (answers old.now.schema select_files [] old new refl is.plain (files_query l) file_names is.command is.unlisted rows.items shown))
    (rw c.files_text.ensures at (c.query_all.ensures.ok clean))

pub returns-clause-same : goal.returns-clause-same
returns-clause-same g c clean =
    let old = state g.S.Store c.args.conn.now in
    let new = state g.S.Store c.query_all.new.self in
    let tables = c.requires (omega (arith, clean, c.query_all.ensures.survives.clean)) in
    let l = layout_in old.now.trees in
    IfOk-weaker c.query_all.result _ _ (λ rows shown. shown_same old.now.schema select_files [] old new refl (select_files_is old.now.schema l tables.own tables.schema).plain rows.items shown) (rw c.files_text.ensures at (c.query_all.ensures.ok clean))

pub returns-clause-kept : goal.returns-clause-kept
returns-clause-kept g c clean =
    let old = state g.S.Store c.args.conn.now in
    let new = state g.S.Store c.query_all.new.self in
    let tables = c.requires (omega (arith, clean, c.query_all.ensures.survives.clean)) in
    let l = layout_in old.now.trees in
    IfErr-weaker c.query_all.result _ _ (λ e failed. failure_keeps old.now.schema select_files [] old new refl (select_files_is old.now.schema l tables.own tables.schema).plain e (inl failed)) (rw c.files_text.ensures at (c.query_all.ensures.err clean))

pub returns-clause-survives : goal.returns-clause-survives
returns-clause-survives g c =
    let old = state g.S.Store c.args.conn.now in
    let new = state g.S.Store c.query_all.new.self in
    survives_weaker old new _ (λ _. ⊥) (λ clean db committed.
    let tables = c.requires (omega (arith, clean, c.query_all.ensures.survives.clean)) in
    let plain = (select_files_is old.now.schema (layout_in old.now.trees) tables.own tables.schema).plain in
    absurd (never_commits select_files [] old db plain (subst (λ text. CommitsShowing text [] old db) c.files_text.ensures committed))) c.query_all.ensures.survives
