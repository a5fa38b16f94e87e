-- What a migration leaves in the two files of a catalogue.
use Rattle.std.specs.Prelude.{◌≡◌, ℕ, List, []}
use Rattle.sqlite.specs.Effect.{Database, IsDatabase}
use Rattle.sqlite.specs.Files.{HoldsDatabase}
use Rattle.sqlite.specs.Schema.{Schema}
use Rattle.sqlite.specs.Tree.{Trees}
use Rattle.sqlite_disk.specs.declared.Disk.{Ghosts}
use Rattle.sqlite_disk.specs.declared.Files.{Files}
use Rattle.sqlite_store.specs.declared.store.FileStore.{FileStore}
use Rattle.sqlite_store.specs.FileStore.{view}
use Rattle.sqlite_trees.specs.View.{IsClean}
use Rattle.sqlite_wal.specs.Recovery.{Image}
use Rattle.br_catalog_tables.specs.declared.old_schema.OldLayout.{OldLayout}
use Rattle.br_store.specs.Look.{alone}
use Rattle.br_catalog_files.specs.Moved.{KeepsJobs, database}
use Rattle.br_catalog_files.specs.Old.{IsMigrated}
use Rattle.br_catalog_files.specs.OldRead.{IsOldIn}

-- the store shows the database that these contents of the two files hold, if they hold one
abbrev pub ShowsDatabase : {D : Type 0} {g : Ghosts D} → Image → FileStore D g → Type 0
ShowsDatabase image it = (db : Trees) → HoldsDatabase image db → (view it).trees ≡ db

-- The log is empty. The database file alone holds a catalogue of version 2, as it reads now and whatever a crash leaves of
-- it. The catalogue has the rows of the one of version 1, and both form this number of jobs.
pub record HoldMigrated {D : Type 0} (g : Ghosts D) (was : Database) (files : Files D) (jobs : ℕ) : Type 0 where
  pub catalogue : Database
  pub migrated : IsMigrated was catalogue
  pub kept : KeepsJobs was.trees catalogue.trees jobs
  pub emptied : g.seen files.log ≡ []
  pub seen : ∥ HoldsDatabase (alone (g.seen files.db)) catalogue.trees ∥₁
  pub left : (bytes : List ℕ) → g.may_leave files.db bytes → ∥ HoldsDatabase (alone bytes) catalogue.trees ∥₁

-- the store showed a database of version 1, and if that was sound, the files hold what was made of it
pub record IsMigratedTo {D : Type 0} {g : Ghosts D} (it : FileStore D g) (files : Files D) (jobs : ℕ) : Type 0 where
  pub was_clean : IsClean (view it)
  pub schema : Schema
  pub layout : OldLayout
  pub listed : IsOldIn schema layout (view it).trees
  pub hold : IsDatabase (database schema (view it).trees) → HoldMigrated g (database schema (view it).trees) files jobs
