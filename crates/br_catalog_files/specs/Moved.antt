-- A store whose catalogue was migrated from version 1 to version 2.
use Rattle.std.specs.Prelude.{◌≡◌, ◌≢◌, ◌⊎◌, ◌≤◌, ℕ, ℤ, pos, List, [], ◌∷◌, length, map, false, Ok, IsTrue}
use Rattle.sqlite.specs.declared.types.Value.TheVariants.{Int}
use Rattle.sqlite.specs.Order.{Row}
use Rattle.sqlite.specs.Tree.{Trees}
use Rattle.sqlite.specs.Steps.{IsFresh}
use Rattle.sqlite.specs.Schema.{Schema}
use Rattle.sqlite.specs.Effect.{Database, IsDatabase}
use Rattle.sqlite_disk.specs.Disk.{MoreFaults}
use Rattle.sqlite_trees.specs.declared.store.Store.{Ghosts}
use Rattle.sqlite_trees.specs.Objects.{catalog_tree}
use Rattle.sqlite_trees.specs.View.{View, IsClean, doubt}
use Rattle.sqlite_catalog.specs.Listing.{Lists}
use Rattle.br_model.specs.Job.{JobRows}
use Rattle.br_catalog_rows.specs.Fault.{fault_number}
use Rattle.br_catalog_rows.specs.Load.{read_history}
use Rattle.br_catalog_rows.specs.declared.fault.StoreFault.{StoreFault}
use Rattle.br_catalog_tables.specs.declared.old_schema.OldLayout.{OldLayout}
use Rattle.br_catalog_tables.specs.OldSchemas.{IsMovedSchema}
use Rattle.br_store.specs.Held.{rows_in}
use Rattle.br_catalog_files.specs.OldFiles.{moved_row}
use Rattle.br_catalog_files.specs.Old.{IsMigrated, old_rows_in, read_old}
use Rattle.br_catalog_files.specs.OldRead.{AreSorted, FormJobs, IsOldIn}
use Rattle.br_catalog_files.specs.Renewed.{IsAltered, ListsNoOther}
use Rattle.br_catalog_files.specs.Sound.{AreMovedRows, moved_trees}
use Rattle.br_catalog_files.specs.declared.old_version.OldSchema.{OldSchema}

-- the rows of files of version 2
abbrev pub moved_files : OldLayout → Trees → List Row
moved_files l trees = map (moved_row (trees l.filename)) (trees l.file)

-- the row of a version with this number
abbrev pub version_rows : ℤ → ℕ → List Row
version_rows id version = (Int id ∷ Int (pos version) ∷ []) ∷ []

-- the trees are those of version 2, and list its tables
pub record IsMovedFrom (schema : Schema) (l : OldLayout) (id : ℤ) (old new : Trees) : Type 0 where
  pub a : List Row
  pub b : List Row
  pub c : List Row
  pub d : List Row
  pub is : new ≡ moved_trees l old a b c d (moved_files l old) (version_rows id 2)
  pub after : Schema
  pub lists : Lists (new catalog_tree) after
  pub shares : ListsNoOther l.file (old catalog_tree) (new catalog_tree)
  pub moved : IsMovedSchema after schema l
  pub rows : AreMovedRows (old l.file) (moved_files l old)

-- the tables of version 2 are listed, as a migration makes them
abbrev pub ListsMoved : Trees → OldSchema → Type 0
ListsMoved trees old = (after : Schema) × Lists (trees catalog_tree) after × IsMovedSchema after old.schema old.layout

-- the catalogue of version 2 was written, and nothing was committed
pub record IsWritten (schema : Schema) (l : OldLayout) (id : ℤ) (old new : View) : Type 0 where
  pub sound : old.is_broken ≡ false
  pub moved : IsMovedFrom schema l id old.trees new.trees
  pub is : IsAltered old new new.trees

-- a catalogue of version 1 whose rows are those of a history
pub record IsWhole (trees : Trees) : Type 0 where
  pub schema : Schema
  pub layout : OldLayout
  pub is : IsOldIn schema layout trees
  pub id : ℤ
  pub version_was : trees layout.version ≡ version_rows id 1
  pub sorted : AreSorted layout trees
  pub all : List JobRows
  pub loaded : FormJobs layout trees all

-- the rows were those of a history of this number of jobs, and the catalogue of version 2 has them
pub record IsMoved (old new : View) (n : ℕ) : Type 0 where
  pub was : IsWhole old.trees
  pub written : IsWritten was.schema was.layout was.id old new
  pub many : n ≡ length was.all

-- the store is open, and the catalogue of version 2 is committed
pub record IsKept (old new : View) (n : ℕ) : Type 0 where
  pub is_open : IsTrue new.is_open
  pub fresh : IsFresh new
  pub was : IsWhole old.trees
  pub moved : IsMovedFrom was.schema was.layout was.id old.trees new.trees
  pub many : n ≡ length was.all

-- these trees are made from the others, which were those of a catalogue of version 1
abbrev pub IsMadeOf : Trees → Trees → Type 0
IsMadeOf old new = (was : IsWhole old) × IsMovedFrom was.schema was.layout was.id old new

-- No fault is forgotten, only a fault shuts the store, and a crash leaves what it could leave
-- before, or the migrated catalogue.
pub record MayMove {S : Type 0} (g : Ghosts S) (old new : S) : Type 0 where
  pub shield : g.is_shielded old → g.is_shielded new
  pub clean : doubt (g.view old).is_clean ≤ doubt (g.view new).is_clean
  pub counts : g.faults old ≤ g.faults new
  pub closes : IsClean (g.view new) → IsTrue (g.view old).is_open → IsTrue (g.view new).is_open ⊎ MoreFaults (g.faults old) (g.faults new)
  pub crash : IsClean (g.view new) → (db : Trees) → g.recovers new db → g.recovers old db ⊎ IsMadeOf (g.view old).trees db

-- ---- as a caller sees it

abbrev pub database : Schema → Trees → Database
database schema trees = record { schema = schema; trees = trees }

-- The trees listed a schema of version 1. If the database was sound, it became a catalogue with its
-- rows.
abbrev pub Migrates : Trees → Trees → Type 0
Migrates old new =
    (schema : Schema) × (l : OldLayout) × IsOldIn schema l old
    × (IsDatabase (database schema old) → (after : Schema) × IsMigrated (database schema old) (database after new))

-- the store is open, all visible data is committed, and it is the catalogue
pub record HasMigrated (old new : View) : Type 0 where
  pub is_open : IsTrue new.is_open
  pub settled : new.trees ≡ new.committed
  pub catalogue : Migrates old.trees new.trees

-- the rows of version 1 formed this number of jobs, and the rows of version 2 form the same jobs
abbrev pub KeepsJobs : Trees → Trees → ℕ → Type 0
KeepsJobs old new n =
    (jobs : List JobRows) × (read_old (old_rows_in old) ≡ Ok jobs) × (read_history (rows_in new) ≡ Ok jobs) × (n ≡ length jobs)

-- no fault is forgotten, only a fault shuts the store, and a crash leaves what it could leave before or the catalogue of version 2
pub record Survives {S : Type 0} (g : Ghosts S) (old new : S) : Type 0 where
  pub shield : g.is_shielded old → g.is_shielded new
  pub clean : doubt (g.view old).is_clean ≤ doubt (g.view new).is_clean
  pub counts : g.faults old ≤ g.faults new
  pub closes : IsClean (g.view new) → IsTrue (g.view old).is_open → IsTrue (g.view new).is_open ⊎ MoreFaults (g.faults old) (g.faults new)
  pub crash : IsClean (g.view new) → (db : Trees) → g.recovers new db → g.recovers old db ⊎ Migrates (g.view old).trees db

-- unless the store failed, a crash leaves only what it could leave before
abbrev pub KeepsUnlessFailed : {S : Type 0} → Ghosts S → S → S → StoreFault → Type 0
KeepsUnlessFailed g old new fault = fault_number fault ≢ 45 → (db : Trees) → g.recovers new db → g.recovers old db

-- a crash leaves exactly these trees
abbrev pub LeavesOnly : {S : Type 0} → Ghosts S → S → Trees → Type 0
LeavesOnly g s trees = (db : Trees) → g.recovers s db → db ≡ trees

-- the visible and the committed trees are unchanged
abbrev pub HasSameTrees : View → View → Type 0
HasSameTrees old new = (new.trees ≡ old.trees) × (new.committed ≡ old.committed)
