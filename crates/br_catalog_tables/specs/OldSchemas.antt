-- Schemas of version 1, and those that a migration leaves of them.
use Rattle.std.specs.Prelude.{◌≡◌, ◌⊎◌, true, [], List}
use Rattle.std.specs.List.{AllByRecursion}
use Rattle.sqlite.specs.Schema.{Schema}
use Rattle.sqlite.specs.Table.{Table}
use Rattle.sqlite_schema.specs.declared.schema.Index.{Index}
use Rattle.sqlite_rules.specs.Lists.{Has}
use Rattle.br_catalog_tables.specs.declared.old_schema.OldLayout.{OldLayout}
use Rattle.br_catalog_tables.specs.KnownSchemas.{HasAll, Stands, no_owns}
use Rattle.br_catalog_tables.specs.Tables.{client, fileset, job, job_media, media, path, tables_at, version}
use Rattle.br_catalog_tables.specs.OldTables.{filename, fits_index, keeps_tree, moved_layout, old_file, old_tables_at, spares_tree}

-- the tables of version 1 in these trees, as they stand in the schema
pub record HasOldTables (schema : Schema) (l : OldLayout) : Type 0 where
  pub version : Stands schema (version l.version)
  pub client : Stands schema (client l.client)
  pub fileset : Stands schema (fileset l.fileset)
  pub media : Stands schema (media l.media)
  pub path : Stands schema (path l.path)
  pub filename : Stands schema (filename l.filename)
  pub job : Stands schema (job l.job)
  pub job_media : Stands schema (job_media l.job_media)
  pub file : Stands schema (old_file l.file)

-- a migration leaves the trees of the other tables as they are, and does not drop that of the version
pub record IsApart (l : OldLayout) : Type 0 where
  pub client : keeps_tree l l.client ≡ true
  pub fileset : keeps_tree l l.fileset ≡ true
  pub media : keeps_tree l l.media ≡ true
  pub path : keeps_tree l l.path ≡ true
  pub job : keeps_tree l l.job ≡ true
  pub job_media : keeps_tree l l.job_media ≡ true
  pub version : spares_tree l l.version ≡ true

-- a table of somebody's own that a migration leaves as it is: it refers to no table
abbrev pub IsBeside : OldLayout → Table → Type 0
IsBeside l t = (keeps_tree l t.tree ≡ true) × (t.references ≡ [])

-- The schema has the tables of version 1 in these trees, in whatever order. Other tables refer to
-- none. The indexes are of tables that a migration leaves as they are, but for the one of the names of
-- files.
pub record IsOldSchema (schema : Schema) (l : OldLayout) : Type 0 where
  pub has : HasOldTables schema l
  pub tables : AllByRecursion (λ (t : Table). Has (old_tables_at l) t ⊎ IsBeside l t) schema.tables
  pub indexes : AllByRecursion (λ (i : Index). fits_index l i ≡ true) schema.indexes
  pub apart : IsApart l

-- each of these indexes is one of the others, in a tree and over a table that a migration leaves as
-- they are
abbrev pub AreKept : OldLayout → List Index → List Index → Type 0
AreKept l others = AllByRecursion (λ (i : Index). Has others i × (keeps_tree l i.table ≡ true) × (keeps_tree l i.tree ≡ true))

-- The schema has the tables of version 2 in the trees of the tables of version 1 that they are made
-- of, and no other indexes than before. Other tables are in trees that a migration leaves as they are.
pub record IsMovedSchema (schema old : Schema) (l : OldLayout) : Type 0 where
  pub has : HasAll schema (moved_layout l) no_owns
  pub tables : AllByRecursion (λ (t : Table). Has (tables_at (moved_layout l)) t ⊎ IsBeside l t) schema.tables
  pub kept : AreKept l old.indexes schema.indexes
