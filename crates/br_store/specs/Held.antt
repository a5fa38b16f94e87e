-- The rows in a database, with names in place of numbers, and the rows that a call adds.
use Rattle.std.specs.Prelude.{◌≡◌, ◌⊎◌, ℕ, ◌-◌, pos, List, [], ◌∷◌, Bool, true, map, filter, find, unwrap_or, codes, bytes_eq, IsTrue, false, Option, Some, None, Result, IfSome, OnOk}
use Rattle.std.specs.Borrow.{Bor}
use Rattle.std.specs.List.{AllByRecursion}
use Rattle.sqlite.specs.declared.types.Value.TheVariants.{Int, Text, Blob}
use Rattle.sqlite.specs.declared.types.Value.{Value}
use Rattle.sqlite.specs.Collation.TheVariants.{Binary}
use Rattle.sqlite_schema.specs.Rules.{equal}
use Rattle.sqlite.specs.Order.{Row, column}
use Rattle.sqlite_rules.specs.Lists.{Has}
use Rattle.sqlite.specs.Edit.{is_taken}
use Rattle.sqlite.specs.Schema.{Schema}
use Rattle.sqlite.specs.Table.{Table}
use Rattle.sqlite.specs.Tree.{Trees, put_row}
use Rattle.sqlite.specs.Effect.{Database, IsDatabase}
use Rattle.sqlite.specs.View.{IsShaped}
use Rattle.sqlite_trees.specs.declared.store.Shape.TheVariants.{Table as Shaped}
use Rattle.sqlite.specs.State.{State, IsUnchanged, Shows, HasCleanDisk}
use Rattle.sqlite.specs.Held.{Held, state}
use Rattle.sqlite_trees.specs.declared.store.Store.{Ghosts}
use Rattle.br_model.specs.Job.{JobRow, Span}
use Rattle.br_catalog_rows.specs.Inserted.{IsNewIn}
use Rattle.br_store.specs.declared.name_numbers.Dictionary.{Dictionary}
use Rattle.br_store.specs.declared.name_numbers.Dictionary.TheVariants.{Client, FileSet, Media, Path}
use Rattle.br_store.specs.declared.job_writing.PathParts.{PathParts}
use Rattle.br_store.specs.Names.{tree_of, word}
use Rattle.br_catalog_rows.specs.Load.{is_of_any, with_files_of}
use Rattle.br_catalog_rows.specs.Rows.{Rows, with_file_row, with_job, with_spans}
use Rattle.sqlite_trees.specs.Objects.{catalog_tree, number_in}
use Rattle.sqlite_catalog.specs.Listing.{is_table_row}
use Rattle.br_catalog_tables.specs.TreePlaces.{Layout, row_number, version_id, name_column, media_type}
use Rattle.br_catalog_tables.specs.TreePlaces.{job_type, job_level, job_client, job_status, job_start_time, job_fileset}
use Rattle.br_catalog_tables.specs.TreePlaces.{job_session_id, job_session_time, span_job, span_media, span_first_index, span_last_index}
use Rattle.br_catalog_tables.specs.TreePlaces.{span_start_file, span_end_file, span_start_block, span_end_block, span_vol_index}
use Rattle.br_catalog_tables.specs.TreePlaces.{file_index, file_job, file_path, file_filename, file_lstat, file_md5}
use Rattle.br_catalog_tables.specs.Tables.{tables_at, version}
use Rattle.br_catalog_tables.specs.KnownSchemas.{HasAll, Own, Owns, Stands, with_own}

-- ---- where the tables are

-- the value is this text
abbrev pub is_text : List ℕ → Value → Bool
is_text name (Text t) = bytes_eq t name
is_text name _ = false

-- the row of the list of objects has this name
abbrev pub has_name : List ℕ → Row → Bool
has_name name row = is_text name (column row 2)

-- The tree that holds the table with this name. The list of objects is a tree too, in which the row
-- of a table has the number after that of the table's tree.
unfoldable pub tree_named : Trees → List ℕ → ℕ
tree_named trees name = number_in (column (unwrap_or (find (has_name name) (filter is_table_row (trees catalog_tree))) []) row_number) - 1

-- the trees that hold the catalogue's tables, found by the names of the tables
abbrev pub layout_in : Trees → Layout
layout_in trees = record {
  version = tree_named trees (codes "Version");
  client = tree_named trees (codes "Client");
  fileset = tree_named trees (codes "FileSet");
  media = tree_named trees (codes "Media");
  path = tree_named trees (codes "Path");
  job = tree_named trees (codes "Job");
  job_media = tree_named trees (codes "JobMedia");
  file = tree_named trees (codes "File");
}

-- ---- names for numbers

-- the row has this number
abbrev pub is_named : Value → Row → Bool
is_named id row = equal Binary (column row row_number) id

-- the first row with this number
abbrev pub named : List Row → Value → Row
named rows id = unwrap_or (find (is_named id) rows) []

-- the name that belongs to a number in a table of names
abbrev pub name_at : List Row → Value → Value
name_at rows id = column (named rows id) name_column

-- a row of Job, with the names of its client and its file set in place of their numbers
abbrev pub job_shown : List Row → List Row → Row → Row
job_shown clients filesets job =
    column job row_number ∷ column job job_type ∷ column job job_level ∷ name_at clients (column job job_client)
    ∷ column job job_status ∷ column job job_start_time ∷ name_at filesets (column job job_fileset)
    ∷ column job job_session_id ∷ column job job_session_time ∷ []

-- a row of JobMedia, with the name of its volume in place of its number
abbrev pub span_shown : List Row → Row → Row
span_shown media span =
    column span span_job ∷ name_at media (column span span_media) ∷ column span span_first_index ∷ column span span_last_index
    ∷ column span span_start_file ∷ column span span_end_file ∷ column span span_start_block ∷ column span span_end_block
    ∷ column span span_vol_index ∷ []

-- a row of File, with the front of its path in place of its number
abbrev pub file_shown : List Row → Row → Row
file_shown paths file =
    column file file_job ∷ column file file_index ∷ name_at paths (column file file_path) ∷ column file file_filename
    ∷ column file file_lstat ∷ column file file_md5 ∷ []

-- the row that shows a file of a job: its index, the two parts of its path, its numbers and its
-- digest
abbrev pub file_cells : ℕ → ℕ → List ℕ → List ℕ → List ℕ → List ℕ → Row
file_cells job index front rest lstat digest =
    Int (pos job) ∷ Int (pos index) ∷ Blob front ∷ Blob rest ∷ Text lstat ∷ Text digest ∷ []

-- the catalogue's rows in the trees of a database whose tables are in these
abbrev pub rows_at : Layout → Trees → Rows
rows_at l trees = record {
  versions = map (λ (version : Row). column version version_id ∷ []) (trees l.version);
  jobs = map (job_shown (trees l.client) (trees l.fileset)) (trees l.job);
  spans = map (span_shown (trees l.media)) (trees l.job_media);
  files = map (file_shown (trees l.path)) (trees l.file);
}

-- the catalogue's rows in the trees of a database
abbrev pub rows_in : Trees → Rows
rows_in trees = rows_at (layout_in trees) trees

-- the rows that are looked at: all, or of files only those of the jobs with these numbers
abbrev pub looked_at : Option (Bor (List ℕ)) → Rows → Rows
looked_at None rows = rows
looked_at (Some ids) rows = with_files_of ids.now rows

-- the rows of files of the jobs with these numbers
abbrev pub files_of_jobs : List ℕ → Trees → List Row
files_of_jobs ids trees = filter (is_of_any ids) (rows_in trees).files

-- ---- databases

-- one row was added to one table, and the other tables are as before
pub record Added (s : Schema) (l : Layout) (tree : ℕ) (row : Row) (old new : Database) : Type 0 where
  pub schema : new.schema ≡ s
  pub sound : IsDatabase new
  pub rows : new.trees tree ≡ put_row row (old.trees tree)
  pub fresh : is_taken (old.trees tree) row ≡ false
  pub others : AllByRecursion (λ (t : Table). (t.tree ≡ tree → ⊥) → new.trees t.tree ≡ old.trees t.tree) (tables_at l)

-- A sound database with the catalogue's tables, each with its rows in ascending order. Its tables may
-- have additional columns, and it may have more tables, indexes and views.
pub record HasTables (db : Database) : Type 0 where
  pub own : Owns
  pub schema : HasAll db.schema (layout_in db.trees) own
  pub sound : IsDatabase db
  pub shaped : AllByRecursion (λ (t : Table). IsShaped Shaped (db.trees t.tree)) (tables_at (layout_in db.trees))

-- the rows of the table of the version
abbrev pub versions_in : Trees → List Row
versions_in trees = (rows_in trees).versions

-- A database with the table of the version, whose rows ascend, whatever is beside it. The table may
-- have additional columns.
pub record HasVersions (db : Database) : Type 0 where
  pub own : Own
  pub table : Stands db.schema (with_own (version (tree_named db.trees (codes "Version"))) own)
  pub shaped : IsShaped Shaped (db.trees (tree_named db.trees (codes "Version")))

-- the invariant of a store's connection: no transaction is open, and while the connection is
-- open the database has the tables
pub record IsCatalogue {S : Type 0} (g : Ghosts S) (h : Held S) : Type 0 where
  pub idle : h.in_transaction ≡ false
  pub tables : HasCleanDisk (state g h) → IsTrue (state g h).is_open → HasTables (state g h).now

-- the catalogue's rows in a store
abbrev pub rows_of : {S : Type 0} → Ghosts S → Held S → Rows
rows_of g h = rows_in (state g h).now.trees

-- a row of the table has this number and this name
abbrev pub IsNameAt : Layout → Trees → Dictionary → List ℕ → ℕ → Type 0
IsNameAt l trees dictionary name id =
    (row : Row) × Has (trees (tree_of l dictionary)) row × (column row row_number ≡ Int (pos id)) × (column row name_column ≡ word dictionary name)

-- the catalogue gives a name this number
abbrev pub IsName : Trees → Dictionary → List ℕ → ℕ → Type 0
IsName trees dictionary name id = IsNameAt (layout_in trees) trees dictionary name id

-- a query shows the number of a row of the table that has this name
abbrev pub IsNumberAt : Layout → Trees → Dictionary → List ℕ → Row → Type 0
IsNumberAt l trees dictionary name shown =
    (row : Row) × Has (trees (tree_of l dictionary)) row × (shown ≡ column row row_number ∷ []) × (column row name_column ≡ word dictionary name)

-- a query shows a number that the catalogue gives to this name
abbrev pub IsNumberOf : Trees → Dictionary → List ℕ → Row → Type 0
IsNumberOf trees dictionary name shown = IsNumberAt (layout_in trees) trees dictionary name shown

-- each row shows a number that the catalogue gives to this name
abbrev pub AreNumbersOf : State → Dictionary → List ℕ → List Row → Type 0
AreNumbersOf db dictionary name rows = AllByRecursion (IsNumberOf db.now.trees dictionary name) rows

-- nothing is changed, and if a number is found, the catalogue gives it to this name
abbrev pub FindsName : State → State → Dictionary → List ℕ → Option ℕ → Type 0
FindsName old new dictionary name found = IsUnchanged old new × IfSome found (IsName old.now.trees dictionary name)

-- the transaction goes on, and nothing is committed
abbrev pub GoesOn : State → State → Type 0
GoesOn old new = Shows old new new.now old.committed true

-- the rows of the table of volumes
abbrev pub media_in : Trees → List Row
media_in trees = trees (tree_named trees (codes "Media"))

-- each volume that was added has the type `File`
pub record AddsMedia (old new : Trees) : Type 0 where
  pub typed : (row : Row) → Has (media_in new) row → Has (media_in old) row ⊎ (column row media_type ≡ Text (codes "File"))

-- The transaction goes on with these rows, each name keeps its number, and nothing is committed. Each
-- volume that was added has the type `File`.
pub record Wrote (rows : Rows) (old new : State) : Type 0 where
  pub was_open : IsTrue new.is_open → IsTrue old.is_open
  pub mode : IsTrue new.in_transaction
  pub committed : new.committed ≡ old.committed
  pub tables : HasTables new.now
  pub names : (d : Dictionary) (name : List ℕ) (id : ℕ) → IsName old.now.trees d name id → IsName new.now.trees d name id
  pub media : AddsMedia old.now.trees new.now.trees
  pub has : rows_in new.now.trees ≡ rows

-- the transaction goes on with the rows that this makes of those before
abbrev pub Writes : (Rows → Rows) → State → State → Type 0
Writes more old new = Wrote (more (rows_in old.now.trees)) old new

-- the transaction goes on with unchanged rows
abbrev pub WritesNoRow : State → State → Type 0
WritesNoRow old new = Wrote (rows_in old.now.trees) old new

-- no row of the catalogue is written, and the catalogue gives the name this number
abbrev pub NamesBy : State → State → Dictionary → List ℕ → ℕ → Type 0
NamesBy old new dictionary name id = WritesNoRow old new × IsName new.now.trees dictionary name id

-- the job's own row was written, and the job was new
abbrev pub WritesJob : JobRow → State → State → Type 0
WritesJob j old new = Wrote (with_job j (rows_in old.now.trees)) old new × IsNewIn j (rows_in old.now.trees)

-- the job's own row is written if the call does not fail and these are the numbers of its client and
-- its file set
abbrev pub WritesJobOf : {A E : Type 0} → JobRow → ℕ → ℕ → State → State → Result A E → Type 0
WritesJobOf j client fileset old new result =
    IsName old.now.trees Client j.client client → IsName old.now.trees FileSet j.fileset fileset
    → OnOk result (WritesJob j old new)

-- the row of a span is written if the call does not fail and this is the number of its volume
abbrev pub WritesSpanOf : {A E : Type 0} → ℕ → Span → ℕ → State → State → Result A E → Type 0
WritesSpanOf job span media old new result =
    IsName old.now.trees Media span.volume media → OnOk result (Writes (with_spans job (span ∷ [])) old new)

-- the row of a file is written if the call does not fail, and this is the number of the
-- front of its path
abbrev pub WritesFileOf : {A E : Type 0} → ℕ → ℕ → PathParts → List ℕ → List ℕ → State → State → Result A E → Type 0
WritesFileOf job index parts lstat digest old new result =
    (front : List ℕ) → IsName old.now.trees Path front parts.path
    → OnOk result (Writes (with_file_row (file_cells job index front parts.rest.now lstat digest)) old new)
