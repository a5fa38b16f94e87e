-- A catalogue of version 1 whose rows form a history is not refused as a bad one.
use Rattle.std.proofs.Common.{◌≡◌, ℕ, ℤ, pos, negsuc, Bool, true, false, ◌&&◌, List, [], ◌∷◌, map, is_ok, option_map, slice_get, unwrap_or, IsTrue, Option, Some, Result, Ok, Err, refl, sym, ap, ap₂, subst, ◌∙◌, eqb-true, find}
use Rattle.std.specs.List.{AllByRecursion}
use Rattle.sqlite.specs.declared.types.Value.{Value}
use Rattle.sqlite.specs.declared.types.Value.TheVariants.{Blob, Int, Null, Real, Text}
use Rattle.sqlite.specs.Kind.{Kind}
use Rattle.sqlite.specs.Kind.TheVariants.{Any, Integer}
use Rattle.sqlite.specs.Order.{Row, column}
use Rattle.sqlite.specs.Schema.{Schema}
use Rattle.sqlite.specs.Table.{Table}
use Rattle.sqlite.specs.Tree.{Trees, rowid}
use Rattle.sqlite.specs.View.{is_int}
use Rattle.sqlite_catalog.specs.Listing.{Lists}
use Rattle.sqlite_catalog.proofs.ReadLemmas.{lists_once}
use Rattle.sqlite_rules.proofs.ListLemmas.{all_has}
use Rattle.sqlite_schema.specs.Names.{same_name}
use Rattle.sqlite_schema.specs.declared.schema.Column.{Column}
use Rattle.sqlite_schema.specs.Rules.{passes}
use Rattle.sqlite_schema.specs.declared.schema.Constraint.TheVariants.{Datatype}
use Rattle.sqlite_trees.specs.Objects.{catalog_tree}
use Rattle.br_model.specs.Answer.{Answers}
use Rattle.br_model.specs.Job.{JobRows}
use Rattle.br_catalog_rows.specs.Decode.{natural}
use Rattle.br_catalog_rows.specs.Fault.{of_rows_fault, rows_cause}
use Rattle.br_catalog_rows.specs.Load.{is_read, read_history, read_loaded}
use Rattle.br_catalog_rows.specs.Rows.{Rows}
use Rattle.br_catalog_rows.specs.declared.fault.RowsFault.{RowsFault}
use Rattle.br_catalog_rows.specs.declared.fault.RowsFault.TheVariants.{BadRows, Memory}
use Rattle.br_catalog_rows.specs.declared.fault.StoreFault.{StoreFault}
use Rattle.br_catalog_tables.specs.KnownSchemas.{IsStoreSchema, IsVersionTree, Stands, with_own}
use Rattle.br_catalog_tables.specs.OldSchemas.{IsOldSchema}
use Rattle.br_catalog_tables.specs.OldTables.{filename, old_file}
use Rattle.br_catalog_tables.specs.Tables.{client, file, fileset, job, job_media, media, no_schema, path, version}
use Rattle.br_catalog_tables.specs.declared.old_schema.OldLayout.{OldLayout}
use Rattle.br_store.specs.Made.{is_first}
use Rattle.br_store.proofs.Inserts.{has_table}
use Rattle.br_store.proofs.Lookups.{by_name}
use Rattle.br_catalog_files.specs.Moved.{database, version_rows}
use Rattle.br_catalog_files.specs.Old.{HasOld, old_rows_in, read_old}
use Rattle.br_catalog_files.specs.OldRead.{IsOldIn}
use Rattle.br_catalog_files.specs.Refusals.{AreLinked, CanGive, CanName, FormHistory, IsOldHistory, RefusesRows, is_bad}
use Rattle.br_catalog_files.specs.declared.old_names.NameTable.{NameTable}
use Rattle.br_catalog_files.proofs.FormLaws.{int_of}
use Rattle.br_catalog_files.proofs.HistoryLaws.{read_without}
use Rattle.br_catalog_files.proofs.MigratedLaws.{loaded_rows, old_rows}

-- ---- one layout

-- two tables of one name that stand in a schema are the same
same_stand : (schema : Schema) (t u : Table) → Stands schema t → Stands schema u → t.name ≡ u.name → t ≡ u
same_stand schema t u one two name =
    let first : find (λ (w : Table). same_name w.name u.name) schema.tables ≡ Some t = subst (λ (n : List ℕ). find (λ (w : Table). same_name w.name n) schema.tables ≡ Some t) name (by_name schema t one) in
    let both : ◌≡◌ {A = Option Table} (Some t) (Some u) = sym first ∙ by_name schema u two in
    cc

-- the tables of version 1 are in the same trees
same_layout : (schema : Schema) (l m : OldLayout) → IsOldSchema schema l → IsOldSchema schema m → m ≡ record l { filename_index = m.filename_index }
same_layout schema l m a b =
    let at = λ (t u : Table) (s : Stands schema t) (r : Stands schema u) (name : u.name ≡ t.name). ap (λ (w : Table). w.tree) (same_stand schema u t r s name) in
    let v : m.version ≡ l.version = at (version l.version) (version m.version) a.has.version b.has.version refl in
    let c : m.client ≡ l.client = at (client l.client) (client m.client) a.has.client b.has.client refl in
    let f : m.fileset ≡ l.fileset = at (fileset l.fileset) (fileset m.fileset) a.has.fileset b.has.fileset refl in
    let d : m.media ≡ l.media = at (media l.media) (media m.media) a.has.media b.has.media refl in
    let p : m.path ≡ l.path = at (path l.path) (path m.path) a.has.path b.has.path refl in
    let n : m.filename ≡ l.filename = at (filename l.filename) (filename m.filename) a.has.filename b.has.filename refl in
    let j : m.job ≡ l.job = at (job l.job) (job m.job) a.has.job b.has.job refl in
    let s : m.job_media ≡ l.job_media = at (job_media l.job_media) (job_media m.job_media) a.has.job_media b.has.job_media refl in
    let i : m.file ≡ l.file = at (old_file l.file) (old_file m.file) a.has.file b.has.file refl in
    ap₂ (λ x y. record m { version = x; client = y }) v c
    ∙ ap₂ (λ x y. record m { version = l.version; client = l.client; fileset = x; media = y }) f d
    ∙ ap₂ (λ x y. record m { version = l.version; client = l.client; fileset = l.fileset; media = l.media; path = x; filename = y }) p n
    ∙ ap₂ (λ x y. record m { version = l.version; client = l.client; fileset = l.fileset; media = l.media; path = l.path; filename = l.filename; job = x; job_media = y }) j s
    ∙ ap (λ x. record l { file = x; filename_index = m.filename_index }) i

-- whatever the tree of the index of names is
forms_by : (l : OldLayout) (n : ℕ) (trees : Trees) → FormHistory l trees → FormHistory (record l { filename_index = n }) trees
forms_by l n trees h = record {
  id = h.id;
  version_is = h.version_is;
  sorted = record {
    versions = h.sorted.versions;
    clients = h.sorted.clients;
    filesets = h.sorted.filesets;
    media = h.sorted.media;
    paths = h.sorted.paths;
    names = h.sorted.names;
    jobs = h.sorted.jobs;
    spans = h.sorted.spans;
    files = h.sorted.files;
  };
  linked = record { jobs = h.linked.jobs; spans = h.linked.spans; files = h.linked.files };
  all = h.all;
  loaded = h.loaded;
}

-- the schema that is found is that of the history
schema_of : (schema : Schema) (trees : Trees) (h : IsOldHistory trees) → Lists (trees catalog_tree) schema → IsOldSchema schema h.layout
schema_of schema trees h lists = subst (λ (s : Schema). IsOldSchema s h.layout) (lists_once (trees catalog_tree) h.schema schema h.has.sound.lists lists) h.has.is

pub forms_in : (schema : Schema) (m : OldLayout) (trees : Trees) → IsOldIn schema m trees → IsOldHistory trees → FormHistory m trees
forms_in schema m trees old h =
    subst (λ (k : OldLayout). FormHistory k trees) (sym (same_layout schema h.layout m (schema_of schema trees h old.listed) old.is)) (forms_by h.layout m.filename_index trees h.forms)

-- ---- other databases

-- the kind of the fifth column
abbrev kind_at : Table → Kind
kind_at t = unwrap_or (option_map (λ (c : Column). c.kind) (slice_get t.columns 4)) Integer

nothing_stands : (t : Table) → Stands no_schema t → ⊥
nothing_stands t stands = let none = stands.is in cc

pub not_empty : (schema : Schema) (trees : Trees) → Lists (trees catalog_tree) schema → IsOldHistory trees → schema ≡ no_schema → ⊥
not_empty schema trees lists h none =
    let is = subst (λ (s : Schema). IsOldSchema s h.layout) none (schema_of schema trees h lists) in
    nothing_stands (version h.layout.version) is.has.version

pub not_ours : (schema : Schema) (trees : Trees) → Lists (trees catalog_tree) schema → IsOldHistory trees → IsStoreSchema schema → ⊥
not_ours schema trees lists h ours =
    let is = schema_of schema trees h lists in
    let same = same_stand schema (with_own (file ours.0.file) ours.1.file) (old_file h.layout.file) ours.2.file is.has.file refl in
    let kinds : ◌≡◌ {A = Kind} Any Integer = ap kind_at same in
    cc

-- the version is in the tree that is found
pub version_in : (schema : Schema) (trees : Trees) (tree : ℕ) (h : IsOldHistory trees) → Lists (trees catalog_tree) schema → IsVersionTree schema tree → trees tree ≡ version_rows h.forms.id 1
version_in schema trees tree h lists found =
    let is = schema_of schema trees h lists in
    let same = same_stand schema (with_own (version tree) found.0) (version h.layout.version) found.1 is.has.version refl in
    ap (λ (t : Table). trees t.tree) same ∙ h.forms.version_is

-- ---- the rows of the version

one_is : (w : Value) → is_read 1 (natural w) ≡ true → w ≡ Int (pos 1)
one_is Null h = absurd cc
one_is (Int (pos n)) h = ap (λ (k : ℕ). Int (pos k)) (sym (eqb-true 1 n h))
one_is (Int (negsuc n)) h = absurd cc
one_is (Real x) h = absurd cc
one_is (Text t) h = absurd cc
one_is (Blob b) h = absurd cc

no_more : (b : Bool) → ((b && false) && true) ≡ true → ⊥
no_more true h = cc
no_more false h = cc

version_row : (schema : Schema) (trees : Trees) (tree : ℕ) (r : Row) → is_read 1 (natural (column r 1)) ≡ true → passes Datatype schema trees (version tree) r ≡ true → IsTrue (is_int (rowid r))
    → (id : ℤ) × (r ≡ Int id ∷ Int (pos 1) ∷ [])
version_row schema trees tree [] first typed number = absurd cc
version_row schema trees tree (v ∷ []) first typed number = absurd cc
version_row schema trees tree (v ∷ w ∷ []) first typed number =
    let it = int_of v number in
    (it.0, ap₂ (λ (a b : Value). a ∷ b ∷ []) it.1 (one_is w first))
version_row schema trees tree (v ∷ w ∷ x ∷ more) first typed number = absurd (no_more _ typed)

version_rows_are : (schema : Schema) (trees : Trees) (tree : ℕ) (rows : List Row) → is_first (map (λ (r : Row). column r 1 ∷ []) rows) ≡ true
    → AllByRecursion (λ r. passes Datatype schema trees (version tree) r ≡ true) rows → AllByRecursion (λ r. IsTrue (is_int (rowid r))) rows → (id : ℤ) × (rows ≡ version_rows id 1)
version_rows_are schema trees tree [] first typed numbers = absurd cc
version_rows_are schema trees tree (r ∷ []) first typed numbers =
    let it = version_row schema trees tree r first typed.0 numbers.0 in
    (it.0, ap (λ (s : Row). s ∷ []) it.1)
version_rows_are schema trees tree (r ∷ s ∷ rows) first typed numbers = absurd cc

read_parts : (rows : Rows) (jobs : List JobRows) → read_old rows ≡ Ok jobs → (is_first rows.versions ≡ true) × (read_loaded rows.jobs rows.spans rows.files ≡ Ok jobs)
read_parts rows jobs h = go (is_first rows.versions) refl
  where
    go : (b : Bool) → is_first rows.versions ≡ b → (is_first rows.versions ≡ true) × (read_loaded rows.jobs rows.spans rows.files ≡ Ok jobs)
    go true e = (e, rw e at h)
    go false e = absurd (let bad = rw e at h in cc)

-- ---- the whole

pub old_history : (schema : Schema) (l : OldLayout) (trees : Trees) (jobs : List JobRows) → HasOld l (database schema trees) → AreLinked l trees → read_old (old_rows_in trees) ≡ Ok jobs → IsOldHistory trees
old_history schema l trees jobs has linked h =
    let p = read_parts (loaded_rows l trees) jobs (ap read_old (sym (old_rows schema l trees has)) ∙ h) in
    let typed = all_has (λ (t : Table). AllByRecursion (λ row. passes Datatype schema trees t row ≡ true) (trees t.tree)) schema.tables (version l.version) (has.sound.obeys.rules Datatype) (has_table schema (version l.version) has.is.has.version) in
    let it = version_rows_are schema trees l.version (trees l.version) p.0 typed has.sorted.versions.1 in
    record { schema = schema; layout = l; has = has; forms = record { id = it.0; version_is = it.1; sorted = has.sorted; linked = linked; all = jobs; loaded = p.1 } }

-- 47 is for rows that form no history
pub refuses : (trees : Trees) (fault : StoreFault) → (IsOldHistory trees → is_bad fault ≡ false) → RefusesRows trees fault
refuses trees fault other bad schema l has linked = go (read_old (old_rows_in trees)) refl
  where
    go : (q : Result (List JobRows) ℕ) → read_old (old_rows_in trees) ≡ q → is_ok (read_old (old_rows_in trees)) ≡ false
    go (Err e) is = ap is_ok is
    go (Ok jobs) is = absurd (let no = sym (ap is_bad bad) ∙ other (old_history schema l trees jobs has linked is) in cc)

-- a number that has a path or a name of a file has a name
pub gives_name : (names : NameTable) (id : ℤ) (bytes : List ℕ) → CanGive names (Int id) bytes → CanName names (Int id)
gives_name names id bytes g = record { rows = g.rows; are = g.are; sorted = g.sorted; id = id; is = refl; named = λ null. (let bad = sym g.named ∙ null in cc) }

-- rows that are read without files are not refused
pub not_refused : (f : RowsFault) (rows : Rows) (all : List JobRows) → rows.versions ≡ (Int (pos 2) ∷ []) ∷ [] → rows.files ≡ []
    → Answers {X = List JobRows} (λ h. h) rows_cause (Err f) (read_history rows) → read_loaded rows.jobs rows.spans [] ≡ Ok all → is_bad (of_rows_fault f) ≡ false
not_refused Memory rows all version none a h = refl
not_refused BadRows rows all version none a h = absurd (let bad = sym (read_without rows version none ∙ h) ∙ a in cc)
