-- What the migration of a catalogue in a file leaves, if its disk has returned what was written to it.
use Rattle.std.specs.Prelude.{ℕ}
use Rattle.sqlite_disk.specs.declared.Disk.{Ghosts}
use Rattle.sqlite_disk.specs.declared.Files.{Files}
use Rattle.sqlite_store.specs.declared.store.FileStore.{FileStore}
use Rattle.br_catalog_files.specs.FileMigration.{IsMigratedTo}
use Rattle.br_catalog_files.specs.RawPremises.{HaveKept}

-- The database of a store that was opened so is one of version 2 now, with this number of jobs, and
-- the database file alone holds it.
pub record Migrates {D : Type 0} {g : Ghosts D} (opens : FileStore D g → Type 0) (jobs : ℕ) : Type 0 where
  pub store : FileStore D g
  pub opened : opens store
  pub files : Files D
  pub migrated : HaveKept g files → IsMigratedTo store files jobs
