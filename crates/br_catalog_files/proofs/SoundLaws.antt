-- Each rule of version 2 is kept.
use Rattle.std.proofs.Common.{◌≡◌, ◌≢◌, ℕ, ℤ, pos, Bool, true, false, not, ◌&&◌, ◌||◌, ◌==◌, List, [], ◌∷◌, codes, find, Option, None, Some, option_and_then, option_map, inl, inr, refl, sym, ap, ap₂, subst, ◌∙◌, ne_eqb}
use Rattle.std.specs.List.{AllByRecursion, list_any, list_all}
use Rattle.sqlite.specs.declared.types.Value.{Value}
use Rattle.sqlite.specs.declared.types.Value.TheVariants.{Int}
use Rattle.sqlite.specs.Order.{Row, column}
use Rattle.sqlite.specs.Ops.{is_null}
use Rattle.sqlite.specs.Schema.{Schema}
use Rattle.sqlite.specs.Table.{Table}
use Rattle.sqlite.specs.Tree.{Trees}
use Rattle.sqlite_value.specs.Keys.{first_key}
use Rattle.sqlite_value.specs.declared.keys.Order.{Order}
use Rattle.sqlite_schema.specs.Names.{same_name}
use Rattle.sqlite_schema.specs.Rules.{Obeys, ParentKey, agree, clashes, declared_order, equal, guards, has_null, has_parent, is_held, key_in, key_places, parent_key, passes}
use Rattle.sqlite_schema.specs.declared.schema.Constraint.{Constraint}
use Rattle.sqlite_schema.specs.declared.schema.Constraint.TheVariants.{Datatype, NotNull, Check, PrimaryKey, Unique, ForeignKey}
use Rattle.sqlite_schema.specs.declared.schema.Index.{Index}
use Rattle.sqlite_schema.specs.declared.schema.Reference.{Reference}
use Rattle.sqlite_rules.specs.Lists.{Has}
use Rattle.sqlite_rules.proofs.ListLemmas.{all_from, all_has, test_from, test_has}
use Rattle.br_catalog_tables.specs.declared.old_schema.OldLayout.{OldLayout}
use Rattle.br_catalog_tables.specs.KnownSchemas.{Stands}
use Rattle.br_catalog_tables.specs.OldSchemas.{IsBeside, IsMovedSchema, IsOldSchema}
use Rattle.br_catalog_tables.specs.OldTables.{keeps_tree, moved_layout, old_file}
use Rattle.br_catalog_tables.specs.TreePlaces.{file_filename, file_job, file_path, job_client, job_fileset, span_job, span_media}
use Rattle.br_catalog_tables.specs.Tables.{client, file, fileset, job, job_media, media, path, refers, tables_at, version}
use Rattle.br_store.proofs.Inserts.{has_table}
use Rattle.br_store.proofs.Lookups.{by_name}
use Rattle.br_catalog_files.specs.Moved.{version_rows}
use Rattle.br_catalog_files.specs.Sound.{AreMovedRows, IsMovedRow}
use Rattle.br_catalog_files.proofs.TreeLaws.{both, kept_tree, spared}

-- ---- parents

-- the rows of a parent are asked in its tree
held_same : (old new : Trees) (p : Table) (columns : List ℕ) (row : Row) (places : Option (List ℕ)) → new p.tree ≡ old p.tree
    → is_held new columns row (option_and_then (key_in p) places) ≡ is_held old columns row (option_and_then (key_in p) places)
held_same old new p columns row None at = refl
held_same old new p columns row (Some places) at = go (declared_order p places)
  where
    go : (order : Option Order) → is_held new columns row (option_map (λ o. (p.tree, places, o)) order) ≡ is_held old columns row (option_map (λ o. (p.tree, places, o)) order)
    go None = refl
    go (Some o) = ap (λ (rows : List Row). list_any (λ parent. agree o places parent columns row) rows) at

-- a parent is found by its name
parent_found : (schema : Schema) (p : Table) (ref : Reference) → Stands schema p → ref.parent ≡ p.name
    → parent_key schema.tables ref ≡ option_and_then (key_in p) (key_places p ref.parent_columns)
parent_found schema p ref stands same =
    ap (option_and_then (λ (t : Table). option_and_then (key_in t) (key_places t ref.parent_columns)))
    (subst (λ (n : List ℕ). find (λ (t : Table). same_name t.name n) schema.tables ≡ Some p) (sym same) (by_name schema p stands))

any_same : (p q : Row → Bool) (rows : List Row) → ((r : Row) → p r ≡ q r) → list_any p rows ≡ list_any q rows
any_same p q [] same = refl
any_same p q (r ∷ rows) same = ap₂ ◌||◌ (same r) (any_same p q rows same)

-- a row that has the same value where it refers to a parent
agree_of : (o : Order) (places : List ℕ) (parent a b : Row) (q : ℕ) → column a q ≡ column b q → agree o places parent (q ∷ []) a ≡ agree o places parent (q ∷ []) b
agree_of o [] parent a b q same = refl
agree_of o (k ∷ []) parent a b q same = ap (λ (v : Value). equal (first_key o).collation (column parent k) v && true) same
agree_of o (k ∷ m ∷ ks) parent a b q same = ap (λ (v : Value). equal (first_key o).collation (column parent k) v && false) same

held_of : (db : Trees) (q : ℕ) (a b : Row) → column a q ≡ column b q → (key : Option ParentKey) → is_held db (q ∷ []) a key ≡ is_held db (q ∷ []) b key
held_of db q a b same None = refl
held_of db q a b same (Some key) =
    any_same (λ parent. agree key.2 key.1 parent (q ∷ []) a) (λ parent. agree key.2 key.1 parent (q ∷ []) b) (db key.0) (λ parent. agree_of key.2 key.1 parent a b q same)

of_row : (tables : List Table) (db : Trees) (q : ℕ) (parent name : List ℕ) (a b : Row) → column a q ≡ column b q
    → has_parent tables db a (refers q parent name) ≡ has_parent tables db b (refers q parent name)
of_row tables db q parent name a b same =
    ap₂ ◌||◌ (ap (λ (v : Value). is_null v || false) same) (held_of db q a b same (parent_key tables (refers q parent name)))

-- an index of another table guards no row of this one
unguarded : (i : Index) (t : Table) (clash : Bool) → (i.table == t.tree) ≡ false → not ((i.is_unique && (i.table == t.tree)) && clash) ≡ true
unguarded i t clash apart = rw apart (go i.is_unique)
  where
    go : (b : Bool) → not ((b && false) && clash) ≡ true
    go true = refl
    go false = refl

module _ (schema after : Schema) (l : OldLayout) (old new : Trees) (id : ℤ) (is : IsOldSchema schema l) (obeys : Obeys schema old) (moved : IsMovedSchema after schema l)
    (shared : (t : Table) → Has after.tables t → t.tree ≢ l.file → Has schema.tables t) (version_is : new l.version ≡ version_rows id 2) (same : (t : ℕ) → keeps_tree l t ≡ true → new t ≡ old t) (rows : AreMovedRows (old l.file) (new l.file)) where
  abbrev AreRight : Constraint → Table → Type 0
  AreRight rule t = AllByRecursion (λ row. passes rule after new t row ≡ true) (new t.tree)

  -- ---- references

  one_parent : (p : Table) (ref : Reference) → Stands schema p → Stands after p → ref.parent ≡ p.name → keeps_tree l p.tree ≡ true → (row : Row)
      → has_parent after.tables new row ref ≡ has_parent schema.tables old row ref
  one_parent p ref stood stands name keeps row =
      ap (λ (key : Option ParentKey). has_null ref.columns row || is_held new ref.columns row key) (parent_found after p ref stands name)
      ∙ ap (λ (b : Bool). has_null ref.columns row || b) (held_same old new p ref.columns row (key_places p ref.parent_columns) (same p.tree keeps))
      ∙ sym (ap (λ (key : Option ParentKey). has_null ref.columns row || is_held old ref.columns row key) (parent_found schema p ref stood name))

  two_parents : (p q : Table) (r s : Reference) → Stands schema p → Stands after p → r.parent ≡ p.name → keeps_tree l p.tree ≡ true → Stands schema q → Stands after q → s.parent ≡ q.name
      → keeps_tree l q.tree ≡ true → (row : Row) → list_all (has_parent schema.tables old row) (r ∷ s ∷ []) ≡ true → list_all (has_parent after.tables new row) (r ∷ s ∷ []) ≡ true
  two_parents p q r s stood stands name keeps stood' stands' name' keeps' row h =
      ap₂ (λ a b. a && (b && true)) (one_parent p r stood stands name keeps row) (one_parent q s stood' stands' name' keeps' row) ∙ h

  -- ---- keys

  unique_kept : (t : Table) (row : Row) → new t.tree ≡ old t.tree → passes Unique schema old t row ≡ true → passes Unique after new t row ≡ true
  unique_kept t row at h =
      test_from (λ (i : Index). not (guards i t && clashes i.order i.columns (new t.tree) row)) after.indexes (λ i has.
      let kept = all_has _ after.indexes i moved.kept has in
      let was = test_has (λ (i : Index). not (guards i t && clashes i.order i.columns (old t.tree) row)) schema.indexes i h kept.0 in
      subst (λ (others : List Row). not (guards i t && clashes i.order i.columns others row) ≡ true) (sym at) was)

  unique_free : (t : Table) (row : Row) → ((i : Index) → keeps_tree l i.table ≡ true → (i.table == t.tree) ≡ false) → passes Unique after new t row ≡ true
  unique_free t row free =
      test_from (λ (i : Index). not (guards i t && clashes i.order i.columns (new t.tree) row)) after.indexes (λ i has.
      unguarded i t _ (free i (all_has _ after.indexes i moved.kept has).1))

  -- ---- the tables that stay

  stays : (t : Table) → Has schema.tables t → keeps_tree l t.tree ≡ true → ((row : Row) → passes ForeignKey schema old t row ≡ true → passes ForeignKey after new t row ≡ true)
      → (rule : Constraint) → AreRight rule t
  stays t stood keeps parents rule =
      let at = same t.tree keeps in
      let was = all_has (λ (u : Table). AllByRecursion (λ row. passes rule schema old u row ≡ true) (old u.tree)) schema.tables t (obeys.rules rule) stood in
      subst (AllByRecursion (λ row. passes rule after new t row ≡ true)) (sym at) (all_from _ (old t.tree) (λ row has. each rule row (all_has _ (old t.tree) row was has)))
    where
      each : (rule : Constraint) (row : Row) → passes rule schema old t row ≡ true → passes rule after new t row ≡ true
      each Datatype row h = h
      each NotNull row h = h
      each Check row h = h
      each PrimaryKey row h = h
      each Unique row h = unique_kept t row (same t.tree keeps) h
      each ForeignKey row h = parents row h

  clients : (rule : Constraint) → AreRight rule (client l.client)
  clients rule = stays (client l.client) (has_table schema (client l.client) is.has.client) is.apart.client (λ row h. h) rule

  filesets : (rule : Constraint) → AreRight rule (fileset l.fileset)
  filesets rule = stays (fileset l.fileset) (has_table schema (fileset l.fileset) is.has.fileset) is.apart.fileset (λ row h. h) rule

  medias : (rule : Constraint) → AreRight rule (media l.media)
  medias rule = stays (media l.media) (has_table schema (media l.media) is.has.media) is.apart.media (λ row h. h) rule

  paths : (rule : Constraint) → AreRight rule (path l.path)
  paths rule = stays (path l.path) (has_table schema (path l.path) is.has.path) is.apart.path (λ row h. h) rule

  jobs : (rule : Constraint) → AreRight rule (job l.job)
  jobs rule =
      stays (job l.job) (has_table schema (job l.job) is.has.job) is.apart.job (λ row h.
      two_parents (client l.client) (fileset l.fileset) (refers job_client (codes "Client") (codes "ClientId")) (refers job_fileset (codes "FileSet") (codes "FileSetId")) is.has.client moved.has.client refl is.apart.client is.has.fileset moved.has.fileset refl is.apart.fileset row h) rule

  spans : (rule : Constraint) → AreRight rule (job_media l.job_media)
  spans rule =
      stays (job_media l.job_media) (has_table schema (job_media l.job_media) is.has.job_media) is.apart.job_media (λ row h.
      two_parents (job l.job) (media l.media) (refers span_job (codes "Job") (codes "JobId")) (refers span_media (codes "Media") (codes "MediaId")) is.has.job moved.has.job refl is.apart.job is.has.media moved.has.media refl is.apart.media row h) rule

  -- so does a table of somebody's own
  besides : (rule : Constraint) (t : Table) → Has after.tables t → IsBeside l t → AreRight rule t
  besides rule t has beside =
      let apart = (spared l t.tree (kept_tree l t.tree beside.0).spared).file in
      stays t (shared t has apart) beside.0 (λ row h. subst (λ (refs : List Reference). list_all (has_parent after.tables new row) refs ≡ true) (sym beside.1) refl) rule

  -- ---- the version

  versions : (rule : Constraint) → AreRight rule (version l.version)
  versions rule = subst (AllByRecursion (λ row. passes rule after new (version l.version) row ≡ true)) (sym version_is) (one rule, tt)
    where
      one : (rule : Constraint) → passes rule after new (version l.version) (Int id ∷ Int (pos 2) ∷ []) ≡ true
      one Datatype = refl
      one NotNull = refl
      one Check = refl
      one PrimaryKey = refl
      one Unique = unique_free (version l.version) _ (λ i keeps. ne_eqb i.table l.version (kept_tree l i.table keeps).version)
      one ForeignKey = refl

  -- ---- the files

  one_file : (rule : Constraint) (o n : Row) → passes ForeignKey schema old (old_file l.file) o ≡ true → IsMovedRow o n → passes rule after new (file l.file) n ≡ true
  one_file Datatype o n h m = subst (λ r. passes Datatype after new (file l.file) r ≡ true) (sym m.is) refl
  one_file NotNull o n h m = subst (λ r. passes NotNull after new (file l.file) r ≡ true) (sym m.is) refl
  one_file Check o n h m = refl
  one_file PrimaryKey o n h m = refl
  one_file Unique o n h m = unique_free (file l.file) n (λ i keeps. ne_eqb i.table l.file (spared l i.table (kept_tree l i.table keeps).spared).file)
  one_file ForeignKey o n h m =
      let r = refers file_job (codes "Job") (codes "JobId") in
      let s = refers file_path (codes "Path") (codes "PathId") in
      let q = refers file_filename (codes "Filename") (codes "FilenameId") in
      let held = λ (ref : Reference). has_parent schema.tables old o ref in
      let parents = both (held r) (held s && (held q && true)) h in
      let more = both (held s) (held q && true) parents.1 in
      let of_job : column n file_job ≡ column o file_job = ap (λ (r : Row). column r file_job) m.is ∙ sym m.of_job in
      let of_path : column n file_path ≡ column o file_path = ap (λ (r : Row). column r file_path) m.is ∙ sym m.of_path in
      ap₂ (λ a b. a && (b && true))
      (one_parent (job l.job) r is.has.job moved.has.job refl is.apart.job n ∙ of_row schema.tables old file_job (codes "Job") (codes "JobId") n o of_job ∙ parents.0)
      (one_parent (path l.path) s is.has.path moved.has.path refl is.apart.path n ∙ of_row schema.tables old file_path (codes "Path") (codes "PathId") n o of_path ∙ more.0)

  each_file : (rule : Constraint) (olds news : List Row) → AllByRecursion (λ row. passes ForeignKey schema old (old_file l.file) row ≡ true) olds → AreMovedRows olds news
      → AllByRecursion (λ row. passes rule after new (file l.file) row ≡ true) news
  each_file rule [] [] h m = tt
  each_file rule [] (n ∷ news) h m = absurd m
  each_file rule (o ∷ olds) [] h m = absurd m
  each_file rule (o ∷ olds) (n ∷ news) h m = (one_file rule o n h.0 m.0, each_file rule olds news h.1 m.1)

  files : (rule : Constraint) → AreRight rule (file l.file)
  files rule =
      let was = all_has (λ (u : Table). AllByRecursion (λ row. passes ForeignKey schema old u row ≡ true) (old u.tree)) schema.tables (old_file l.file) (obeys.rules ForeignKey) (has_table schema (old_file l.file) is.has.file) in
      each_file rule (old l.file) (new l.file) was rows

  -- ---- the whole

  each_table : (rule : Constraint) (t : Table) → Has (tables_at (moved_layout l)) t → AreRight rule t
  each_table rule t (inl e) = subst (AreRight rule) (sym e) (versions rule)
  each_table rule t (inr (inl e)) = subst (AreRight rule) (sym e) (clients rule)
  each_table rule t (inr (inr (inl e))) = subst (AreRight rule) (sym e) (filesets rule)
  each_table rule t (inr (inr (inr (inl e)))) = subst (AreRight rule) (sym e) (medias rule)
  each_table rule t (inr (inr (inr (inr (inl e))))) = subst (AreRight rule) (sym e) (paths rule)
  each_table rule t (inr (inr (inr (inr (inr (inl e)))))) = subst (AreRight rule) (sym e) (jobs rule)
  each_table rule t (inr (inr (inr (inr (inr (inr (inl e))))))) = subst (AreRight rule) (sym e) (spans rule)
  each_table rule t (inr (inr (inr (inr (inr (inr (inr (inl e)))))))) = subst (AreRight rule) (sym e) (files rule)
  each_table rule t (inr (inr (inr (inr (inr (inr (inr (inr none)))))))) = absurd none

  pub stays_sound : Obeys after new
  stays_sound = record {
    rules = λ rule. all_from (AreRight rule) after.tables (λ t has. elim (all_has _ after.tables t moved.tables has) [
      | inl ours ↦ each_table rule t ours
      | inr beside ↦ besides rule t has beside
    ]);
    indexed = all_from _ after.indexes (λ i has.
        let kept = all_has _ after.indexes i moved.kept has in
        rw (same i.table kept.1, same i.tree kept.2) (all_has _ schema.indexes i obeys.indexed kept.0));
  }
