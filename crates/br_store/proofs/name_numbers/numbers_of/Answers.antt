use Rattle.std.proofs.Common.{refl, [], ◌∷◌}
use Rattle.std.proofs.lemmas.Result.{IfOk-weaker, IfErr-weaker}
use Rattle.sqlite.specs.Held.{state}
use Rattle.br_store.specs.Names.{word, tree_of, select_text}
use Rattle.br_store.specs.Held.{layout_in}
use Rattle.br_store.proofs.NameTexts.{select_is, name_query, key_name}
use Rattle.br_store.proofs.Words.{bound_word}
use Rattle.br_store.proofs.Selects.{shown_same, failure_keeps, answers, numbers_found}
use Rattle.br_store.proofs.name_numbers.numbers_of.Goals as goal

pub returns-clause-found : goal.returns-clause-found
returns-clause-found g c clean tables =
    let d = c.args.dictionary in
    let old = state g.S.Store c.args.tx.now.conn.now in
    let new = state g.S.Store c.query_all.new.self.conn.now in
    let l = layout_in old.now.trees in
    let is = select_is old.now.schema l tables.own tables.schema d in
    IfOk-weaker c.query_all.result _ _ (λ rows shown. numbers_found old.now.trees d c.args.name.now rows.items
    (answers old.now.schema (select_text d) (word d c.args.name.now ∷ []) old new refl is.plain (name_query (tree_of l d)) (key_name d ∷ []) is.command is.unlisted rows.items shown))
    (rw (c.select_of.ensures, c.word_of.ensures, bound_word d c.args.name.now) at (c.query_all.ensures.ok clean))

pub returns-clause-same : goal.returns-clause-same
returns-clause-same g c clean tables =
    let d = c.args.dictionary in
    let old = state g.S.Store c.args.tx.now.conn.now in
    let new = state g.S.Store c.query_all.new.self.conn.now in
    let l = layout_in old.now.trees in
    IfOk-weaker c.query_all.result _ _ (λ rows shown. shown_same old.now.schema (select_text d) (word d c.args.name.now ∷ []) old new refl (select_is old.now.schema l tables.own tables.schema d).plain rows.items shown)
    (rw (c.select_of.ensures, c.word_of.ensures, bound_word d c.args.name.now) at (c.query_all.ensures.ok clean))

pub returns-clause-kept : goal.returns-clause-kept
returns-clause-kept g c clean tables =
    let d = c.args.dictionary in
    let old = state g.S.Store c.args.tx.now.conn.now in
    let new = state g.S.Store c.query_all.new.self.conn.now in
    let l = layout_in old.now.trees in
    IfErr-weaker c.query_all.result _ _ (λ e failed. failure_keeps old.now.schema (select_text d) (word d c.args.name.now ∷ []) old new refl (select_is old.now.schema l tables.own tables.schema d).plain e failed)
    (rw (c.select_of.ensures, c.word_of.ensures, bound_word d c.args.name.now) at (c.query_all.ensures.err clean))
