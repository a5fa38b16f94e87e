-- What a plain SELECT in a transaction leaves and shows.
use Rattle.std.proofs.Common.{◌≡◌, ◌⊎◌, inl, inr, ℕ, ◌-◌, ◌^◌, nat_le, slice_get, unwrap_or, pos, List, Option, IfSome, [], ◌∷◌, Bool, true, false, ◌&&◌, cond, None, Some, refl, sym, ap, subst, ◌∙◌}
use Rattle.sqlite.specs.declared.types.Value.TheVariants.{Null, Int}
use Rattle.sqlite.specs.Order.{Row, column}
use Rattle.sqlite.specs.Query.{Query, IsAnswer, Output, output}
use Rattle.sqlite.specs.Program.{overlay}
use Rattle.std.specs.List.{AllByRecursion, list_all}
use Rattle.sqlite.specs.Term.{Env, holds}
use Rattle.sqlite.specs.Tree.{Trees}
use Rattle.sqlite.specs.Ops.{binary, is_true}
use Rattle.sqlite.specs.Collation.TheVariants.{Binary}
use Rattle.sqlite_sql.specs.declared.ops.BinaryOp.TheVariants.{Compare}
use Rattle.sqlite_sql.specs.declared.ops.CompareOp.TheVariants.{Eq}
use Rattle.sqlite_rules.specs.Lists.{Has}
use Rattle.sqlite_rules.proofs.ListLemmas.{all_from, all_has}
use Rattle.sqlite_trees.proofs.ListLemmas.{all-permutation, all-flat_map}
use Rattle.br_catalog_tables.specs.TreePlaces.{Layout}
use Rattle.br_store.specs.Calls.{KeepsSettled}
use Rattle.br_store.specs.Held.{IsName, IsNumberAt, IsNumberOf, layout_in}
use Rattle.br_store.specs.Names.{tree_of, word}
use Rattle.br_store.specs.declared.name_numbers.Dictionary.{Dictionary}
use Rattle.br_store.proofs.Values.{word_tied}
use Rattle.br_store.proofs.NameTexts.{name_query}
use Rattle.sqlite.specs.Schema.{Schema}
use Rattle.sqlite.specs.Command.TheVariants.{Select}
use Rattle.sqlite.specs.declared.error.Error.{Error}
use Rattle.sqlite.specs.Listing.{understood, reads_listing}
use Rattle.sqlite.specs.Clock.{timed}
use Rattle.sqlite.specs.State.{State, KeepsCommit, IsUnchanged, IsRolledBack, IsNotRun, FailsToQuery, FailsToShow, IsTooLate, ShowsRows, Shown}
use Rattle.sqlite.proofs.Callers.{IsPlain, command_of, reads_as}
use Rattle.br_model.proofs.ListLaws.{all_map}

pub unchanged_keeps : (old new : State) → IsUnchanged old new → KeepsCommit old new
unchanged_keeps old new h = record { was_open = λ _. h.0.was_open; committed = λ _. h.0.committed_is }

pub undone_keeps : (old new : State) → IsRolledBack old new → KeepsCommit old new
undone_keeps old new h = record { was_open = h.was_open; committed = λ up. (h.undone up).1 }

pub unchanged_stays : (old new : State) → IsUnchanged old new → KeepsSettled old new
unchanged_stays old new h was up = (h.0.now_is, h.0.committed_is)

undone_stays : (old new : State) → IsRolledBack old new → KeepsSettled old new
undone_stays old new h was up =
    let back = h.undone up in
    (back.0 ∙ sym was, back.1)

-- a text that was not run changed nothing, or the transaction was undone
not_run_leaves : (old new : State) (sql : List ℕ) (params : Row) (e : Error) → IsNotRun old new sql params e → IsUnchanged old new ⊎ IsRolledBack old new
unfolding IsNotRun
not_run_leaves old new sql params e (inl h) = inl h.1
not_run_leaves old new sql params e (inr h) = inr h.3

either_keeps : (old new : State) → IsUnchanged old new ⊎ IsRolledBack old new → KeepsCommit old new
either_keeps old new (inl same) = unchanged_keeps old new same
either_keeps old new (inr undone) = undone_keeps old new undone

either_stays : (old new : State) → IsUnchanged old new ⊎ IsRolledBack old new → KeepsSettled old new
either_stays old new (inl same) = unchanged_stays old new same
either_stays old new (inr undone) = undone_stays old new undone

pub not_run_keeps : (old new : State) (sql : List ℕ) (params : Row) (e : Error) → IsNotRun old new sql params e → KeepsCommit old new
not_run_keeps old new sql params e h = either_keeps old new (not_run_leaves old new sql params e h)

module _ (schema : Schema) (sql : List ℕ) (params : Row) (old new : State) (has : old.now.schema ≡ schema) (plain : IsPlain (understood schema sql)) where
  pub shown_same : (rows : List Row) → Shown sql params old new rows → IsUnchanged old new
  unfolding Shown
  shown_same rows h =
      let known = sym h.1.is ∙ ap (λ s. understood s sql) has in
      let bare = subst IsPlain (sym known) plain in
      (subst (ShowsRows old new sql h.0 (timed params h.0.formats h.1.now) rows) bare.0 h.2).3

  failure_leaves : (e : Error) → FailsToQuery sql params old new e ⊎ IsTooLate sql params old new e → IsUnchanged old new ⊎ IsRolledBack old new
  unfolding FailsToQuery
  failure_leaves e (inr late) = inl late.5
  failure_leaves e (inl (inl not_run)) = not_run_leaves old new sql params e not_run
  failure_leaves e (inl (inr h)) =
      let known = sym h.1.is ∙ ap (λ s. understood s sql) has in
      let bare = subst IsPlain (sym known) plain in
      inl (subst (FailsToShow old new sql h.0 (timed params h.0.formats h.1.now) e) bare.0 h.2).3

  pub failure_keeps : (e : Error) → FailsToQuery sql params old new e ⊎ IsTooLate sql params old new e → KeepsCommit old new
  failure_keeps e h = either_keeps old new (failure_leaves e h)

  pub failure_stays : (e : Error) → FailsToQuery sql params old new e ⊎ IsTooLate sql params old new e → KeepsSettled old new
  failure_stays e h = either_stays old new (failure_leaves e h)

  module _ (q : Query) (names : List (List ℕ)) (is : command_of (understood schema sql) ≡ Select (record { lets = []; body = q }) names) (unlisted : reads_listing schema sql ≡ false) where
    pub answers : (rows : List Row) → Shown sql params old new rows → IsAnswer q (overlay old.now.trees []) params rows
    answers rows h = (reads_as sql params old new schema has (Select (record { lets = []; body = q }) names) is plain unlisted rows h).answer Null

-- no table is computed first, so a query reads the tables as they are
pub not_over : (trees : Trees) (tree : ℕ) → overlay trees [] tree ≡ trees tree
not_over trees tree = go (nat_le (2 ^ 31) tree)
  where
    go : (b : Bool) → unwrap_or (cond b (slice_get [] (tree - 2 ^ 31)) None) (trees tree) ≡ trees tree
    go true = refl
    go false = refl

-- each row of the answer is that of a row with the name
found_one : (l : Layout) (trees : Trees) (d : Dictionary) (name : List ℕ) (row : Row) → Has (trees (tree_of l d)) row
    → AllByRecursion (λ env. IsNumberAt l trees d name (output (name_query (tree_of l d)) env).1)
    (cond (list_all (holds ((word d name ∷ []) ∷ row ∷ [])) (name_query (tree_of l d)).filter) (((word d name ∷ []) ∷ row ∷ []) ∷ []) [])
found_one l trees d name row has = go (is_true (binary (Compare Eq Binary) (column row 2) (word d name))) refl
  where
    go : (b : Bool) → is_true (binary (Compare Eq Binary) (column row 2) (word d name)) ≡ b
        → AllByRecursion (λ env. IsNumberAt l trees d name (output (name_query (tree_of l d)) env).1) (cond (b && true) (((word d name ∷ []) ∷ row ∷ []) ∷ []) [])
    go true e = ((row, has, refl, word_tied d (column row 2) name e), tt)
    go false e = tt

numbers_read : (l : Layout) (trees : Trees) (d : Dictionary) (name : List ℕ) (rows : List Row) → IsAnswer (name_query (tree_of l d)) trees (word d name ∷ []) rows
    → AllByRecursion (IsNumberAt l trees d name) rows
numbers_read l trees d name rows a =
    let q = name_query (tree_of l d) in
    let P = λ (env : Env). IsNumberAt l trees d name (output q env).1 in
    let Q = λ (o : Output). IsNumberAt l trees d name o.1 in
    let look = λ (row : Row). cond (list_all (holds ((word d name ∷ []) ∷ row ∷ [])) q.filter) (((word d name ∷ []) ∷ row ∷ []) ∷ []) [] in
    let matched = all-flat_map P look (trees (tree_of l d)) (all_from _ (trees (tree_of l d)) (λ row has. found_one l trees d name row has)) in
    let staged : AllByRecursion P a.staged = subst (AllByRecursion P) (sym a.grouped) matched in
    let kept : AllByRecursion Q a.kept = subst (AllByRecursion Q) (sym a.distinct) (all_map Q (output q) a.staged staged) in
    let ordered = all-permutation Q a.kept a.ordered a.same kept in
    subst (AllByRecursion (IsNumberAt l trees d name)) (sym a.shown) (all_map (IsNumberAt l trees d name) (λ (o : Output). o.1) a.ordered ordered)

pub numbers_found : (trees : Trees) (d : Dictionary) (name : List ℕ) (rows : List Row) → IsAnswer (name_query (tree_of (layout_in trees) d)) (overlay trees []) (word d name ∷ []) rows
    → AllByRecursion (IsNumberOf trees d name) rows
numbers_found trees d name rows a =
    let l = layout_in trees in
    let all = numbers_read l (overlay trees []) d name rows a in
    all_from (IsNumberOf trees d name) rows (λ row has.
    let it = all_has (IsNumberAt l (overlay trees []) d name) rows row all has in
    (it.0, subst (λ rows. Has rows it.0) (not_over trees (tree_of l d)) it.1, it.2, it.3))

pub first_is_name : (trees : Trees) (d : Dictionary) (name : List ℕ) (rows : List Row) → AllByRecursion (IsNumberOf trees d name) rows → (o : Option ℕ)
    → IfSome o (λ id. (row : Row) × Has rows row × (column row 0 ≡ Int (pos id))) → IfSome o (IsName trees d name)
first_is_name trees d name rows all None h = tt
first_is_name trees d name rows all (Some id) h =
    let it = all_has (IsNumberOf trees d name) rows h.0 all h.1 in
    (it.0, it.1, ap (λ r. column r 0) (sym it.2) ∙ h.2, it.3)
