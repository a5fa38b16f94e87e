-- The files of some jobs, kept while the rows of all files are walked over.
use Rattle.std.proofs.Common.{◌≡◌, inl, ℕ, List, [], ◌∷◌, ◌++◌, length, filter, None, Some, refl, sym, ap, subst, ◌∙◌, arith}
use Rattle.std.proofs.lemmas.List.Elements.{filter-append}
use Rattle.sqlite.specs.declared.error.Error.{Error}
use Rattle.sqlite.specs.Effect.{Database}
use Rattle.sqlite.specs.Given.{HasBegun, HasGiven, Advances, FailsToAdvance}
use Rattle.sqlite.specs.Held.{Held, state}
use Rattle.sqlite.specs.Order.{Row}
use Rattle.sqlite.specs.Program.{overlay}
use Rattle.sqlite.specs.Query.{IsAnswer}
use Rattle.sqlite.specs.State.{State, IsUnchanged, KeepsCommit, Survives, CommitsShowing, FailsToQuery, HasCleanDisk, Shown}
use Rattle.sqlite.proofs.Callers.{begun_plain, never_commits, unchanged_then}
use Rattle.sqlite.proofs.StateLemmas.{survives_weaker}
use Rattle.sqlite_trees.specs.declared.store.Store.{Ghosts}
use Rattle.br_catalog_rows.specs.Load.{is_of_any}
use Rattle.br_store.specs.Held.{HasTables, layout_in, rows_in}
use Rattle.br_store.proofs.Asks.{Shows, select_files, files_query, file_names}
use Rattle.br_store.proofs.FileTexts.{select_files_is}
use Rattle.br_store.proofs.Loads.{files_shown}
use Rattle.br_store.proofs.Selects.{answers, failure_keeps}

-- what a failure keeps after nothing was changed
pub kept_after : (a b c : State) → IsUnchanged a b → KeepsCommit b c → KeepsCommit a c
kept_after a b c same kept = record { was_open = λ up. same.0.was_open; committed = λ up. kept.committed up ∙ same.0.committed_is }

-- no row belongs to one of no jobs
pub no_files : (ids : List ℕ) (rows : List Row) → length ids ≡ 0 → filter (is_of_any ids) rows ≡ []
no_files [] [] none = refl
no_files [] (row ∷ rows) none = no_files [] rows none
no_files (id ∷ ids) rows none = absurd (omega (arith, none))

module _ {S : Type 0} (g : Ghosts S) (jobs : List ℕ) (first : Held S) where
  -- The query over the files has given some rows, and those of these jobs are kept. Nothing was
  -- changed.
  pub record HasKept (now : Held S) (kept : List Row) : Type 0 where
    pub given : List Row
    pub gives : HasGiven g select_files [] now given
    pub kept_is : kept ≡ filter (is_of_any jobs) given
    pub same : IsUnchanged (state g first) (state g now)

  shows : HasTables (state g first).now → Shows (state g first).now.schema select_files (files_query (layout_in (state g first).now.trees)) file_names
  shows tables = select_files_is (state g first).now.schema (layout_in (state g first).now.trees) tables.own tables.schema

  pub kept_begins : (text : List ℕ) (now : Held S) → text ≡ select_files → HasTables (state g first).now → HasBegun g text [] first now → HasKept now []
  kept_begins text now is tables begun =
      let plain = begun_plain g select_files [] first now (shows tables).plain (subst (λ t. HasBegun g t [] first now) is begun) in
      record { given = []; gives = plain.0; kept_is = refl; same = plain.1 }

  pub kept_goes_on : (before after : Held S) (kept : List Row) (row : Row) → HasKept before kept → Advances g before after (Some row)
      → IsUnchanged (state g before) (state g after) → HasKept after (kept ++ filter (is_of_any jobs) (row ∷ []))
  kept_goes_on before after kept row has moved same = record {
    given = has.given ++ row ∷ [];
    gives = moved select_files [] has.given has.gives;
    kept_is = ap (λ rows. rows ++ filter (is_of_any jobs) (row ∷ [])) has.kept_is ∙ sym (filter-append (is_of_any jobs) has.given (row ∷ []));
    same = unchanged_then (state g first) (state g before) (state g after) has.same same;
  }

  pub kept_ends : (before after : Held S) (kept : List Row) → HasTables (state g first).now → HasKept before kept → Advances g before after None
      → kept ≡ filter (is_of_any jobs) (rows_in (state g first).now.trees).files
  kept_ends before after kept tables has moved =
      let is = shows tables in
      let old = state g first in
      let shown : Shown select_files [] (state g before) (state g after) has.given = moved select_files [] has.given has.gives in
      let answer = answers old.now.schema select_files [] (state g before) (state g after) (ap (λ (db : Database). db.schema) has.same.0.now_is) is.plain
      (files_query (layout_in old.now.trees)) file_names is.command is.unlisted has.given shown in
      let all = files_shown old.now has.given tables
      (subst (λ (db : Database). IsAnswer (files_query (layout_in old.now.trees)) (overlay db.trees []) [] has.given) has.same.0.now_is answer) in
      has.kept_is ∙ ap (filter (is_of_any jobs)) all

  pub kept_stops : (before after : Held S) (kept : List Row) (e : Error) → HasTables (state g first).now → HasKept before kept → FailsToAdvance g before after e
      → KeepsCommit (state g first) (state g after)
  kept_stops before after kept e tables has failed =
      let is = shows tables in
      let old = state g first in
      let stopped : FailsToQuery select_files [] (state g before) (state g after) e = failed select_files [] has.given has.gives in
      kept_after old (state g before) (state g after) has.same
      (failure_keeps old.now.schema select_files [] (state g before) (state g after) (ap (λ (db : Database). db.schema) has.same.0.now_is) is.plain e (inl stopped))

  pub kept_refused : (text : List ℕ) (after : Held S) (e : Error) → text ≡ select_files → HasTables (state g first).now
      → FailsToQuery text [] (state g first) (state g after) e → KeepsCommit (state g first) (state g after)
  kept_refused text after e is tables failed =
      failure_keeps (state g first).now.schema select_files [] (state g first) (state g after) refl (shows tables).plain e
      (inl (subst (λ t. FailsToQuery t [] (state g first) (state g after) e) is failed))

  pub reading_commits_nothing : (text : List ℕ) (new : State) → text ≡ select_files → (HasCleanDisk (state g first) → HasTables (state g first).now)
      → Survives (state g first) new (CommitsShowing text [] (state g first)) → Survives (state g first) new (λ _. ⊥)
  reading_commits_nothing text new is tables survives =
      survives_weaker (state g first) new _ (λ _. ⊥) (λ clean db committed.
      absurd (never_commits select_files [] (state g first) db (shows (tables (omega (arith, clean, survives.clean)))).plain
      (subst (λ t. CommitsShowing t [] (state g first) db) is committed))) survives
