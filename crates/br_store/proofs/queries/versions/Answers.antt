use Rattle.std.proofs.Common.{codes, refl, [], inl, arith}
use Rattle.sqlite.proofs.StateLemmas.{survives_weaker}
use Rattle.sqlite.proofs.Callers.{never_commits}
use Rattle.std.proofs.lemmas.Result.{IfOk-weaker, IfErr-weaker}
use Rattle.sqlite.specs.Held.{state}
use Rattle.br_store.specs.Held.{tree_named}
use Rattle.br_store.proofs.Asks.{select_versions, versions_query, version_names}
use Rattle.br_store.proofs.VersionTexts.{select_versions_is}
use Rattle.br_store.proofs.Ready.{from_each}
use Rattle.br_store.proofs.Selects.{shown_same, failure_keeps, failure_stays, unchanged_stays, answers}
use Rattle.br_store.proofs.Loads.{versions_shown}
use Rattle.br_store.proofs.queries.versions.Goals as goal

pub returns-clause-rows : goal.returns-clause-rows
returns-clause-rows g c clean =
    let old = state g.S.Store c.args.conn.now in
    let new = state g.S.Store c.query_all.new.self in
    let has = c.requires (omega (arith, clean, c.query_all.ensures.survives.clean)) in
    let tree = tree_named old.now.trees (codes "Version") in
    let is = select_versions_is old.now.schema tree has.own has.table in
    IfOk-weaker c.query_all.result _ _ (λ rows shown.
    versions_shown old.now rows.items has (answers old.now.schema select_versions [] old new refl is.plain (versions_query tree) version_names is.command is.unlisted rows.items shown))
    (c.query_all.ensures.ok clean)

pub returns-clause-same : goal.returns-clause-same
returns-clause-same g c clean =
    let old = state g.S.Store c.args.conn.now in
    let new = state g.S.Store c.query_all.new.self in
    let has = c.requires (omega (arith, clean, c.query_all.ensures.survives.clean)) in
    let tree = tree_named old.now.trees (codes "Version") in
    IfOk-weaker c.query_all.result _ _ (λ rows shown. shown_same old.now.schema select_versions [] old new refl (select_versions_is old.now.schema tree has.own has.table).plain rows.items shown) (c.query_all.ensures.ok clean)

pub returns-clause-stays : goal.returns-clause-stays
returns-clause-stays g c clean =
    let old = state g.S.Store c.args.conn.now in
    let new = state g.S.Store c.query_all.new.self in
    let has = c.requires (omega (arith, clean, c.query_all.ensures.survives.clean)) in
    let plain = (select_versions_is old.now.schema (tree_named old.now.trees (codes "Version")) has.own has.table).plain in
    from_each c.query_all.result _ _ (c.query_all.ensures.ok clean) (c.query_all.ensures.err clean)
    (λ rows shown. unchanged_stays old new (shown_same old.now.schema select_versions [] old new refl plain rows.items shown))
    (λ e failed. failure_stays old.now.schema select_versions [] old new refl plain e (inl failed))

pub returns-clause-kept : goal.returns-clause-kept
returns-clause-kept g c clean =
    let old = state g.S.Store c.args.conn.now in
    let new = state g.S.Store c.query_all.new.self in
    let has = c.requires (omega (arith, clean, c.query_all.ensures.survives.clean)) in
    let tree = tree_named old.now.trees (codes "Version") in
    IfErr-weaker c.query_all.result _ _ (λ e failed. failure_keeps old.now.schema select_versions [] old new refl (select_versions_is old.now.schema tree has.own has.table).plain e (inl failed)) (c.query_all.ensures.err clean)

pub returns-clause-survives : goal.returns-clause-survives
returns-clause-survives g c =
    let old = state g.S.Store c.args.conn.now in
    let new = state g.S.Store c.query_all.new.self in
    survives_weaker old new _ (λ _. ⊥) (λ clean db committed.
    let has = c.requires (omega (arith, clean, c.query_all.ensures.survives.clean)) in
    let plain = (select_versions_is old.now.schema (tree_named old.now.trees (codes "Version")) has.own has.table).plain in
    absurd (never_commits select_versions [] old db plain committed)) c.query_all.ensures.survives
