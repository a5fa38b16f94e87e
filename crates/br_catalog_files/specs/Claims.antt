-- What functions of this crate state about rows, for names that were read.
use Rattle.std.specs.Prelude.{◌≡◌, ◌++◌, ℕ, List, [], ◌∷◌, map, slice_get, Some, Ok}
use Rattle.std.specs.BTreeMap.{BTreeMap}
use Rattle.sqlite.specs.Effect.{IsDatabase}
use Rattle.sqlite.specs.Schema.{Schema}
use Rattle.sqlite.specs.Order.{Row}
use Rattle.sqlite.specs.Tree.{Trees, IsTable}
use Rattle.sqlite_trees.specs.View.{View}
use Rattle.br_model.specs.Job.{JobRow, JobRows}
use Rattle.br_catalog_rows.specs.Load.{read_loaded}
use Rattle.br_catalog_tables.specs.declared.old_schema.OldLayout.{OldLayout}
use Rattle.br_store.specs.Held.{job_shown, span_shown}
use Rattle.br_catalog_files.specs.OldFiles.{AreFiles, moved_row, shown_row}
use Rattle.br_catalog_files.specs.Moved.{IsWritten, KeepsJobs, database}
use Rattle.br_catalog_files.specs.OldNames.{AreNames}
use Rattle.br_catalog_files.specs.OldRead.{AreSorted, IsOldIn, IsReadOld, jobs_in, spans_in}
use Rattle.br_catalog_files.specs.Renewed.{HasFiles}
use Rattle.br_catalog_files.specs.Sound.{AreMovedRows}
use Rattle.br_catalog_files.specs.WholeMigration.{AreWhole, FormFiles}
use Rattle.br_catalog_files.specs.declared.old_files.OldFiles.{OldFiles}
use Rattle.br_catalog_files.specs.declared.migrating.Old.{Old}
use Rattle.br_catalog_files.specs.declared.old_version.OldSchema.{OldSchema}
use Rattle.br_catalog_files.specs.declared.old_names.NameTable.{NameTable}
use Rattle.br_catalog_files.specs.declared.seen_indexes.Indexes.{Indexes}

-- ---- files

-- this is the row of version 2 of the file at this place
abbrev pub IsMovedAt : OldFiles → NameTable → ℕ → Row → Type 0
IsMovedAt files names at row =
    (rows ns : List Row) → AreFiles files rows → AreNames names ns → IsTable ns → slice_get (map (moved_row ns) rows) at ≡ Some row

-- a row of File was accepted: together with those before it, it is one of a history
abbrev pub TakesFile : NameTable → NameTable → Row → BTreeMap ℕ Indexes → BTreeMap ℕ Indexes → Type 0
TakesFile paths names row old new =
    (jobs : List JobRow) (ps ns rows : List Row) → AreNames paths ps → AreNames names ns → IsTable ps → IsTable ns
    → AreWhole jobs old (map (shown_row ps ns) rows) → AreWhole jobs new (map (shown_row ps ns) (rows ++ row ∷ []))

-- rows of version 2 can be made of those of File
abbrev pub CanMove : NameTable → List Row → Type 0
CanMove names rows = (ns : List Row) → AreNames names ns → IsTable ns → AreMovedRows rows (map (moved_row ns) rows)

-- the rows of File are those of a history with these jobs
abbrev pub CanBelong : List JobRows → NameTable → NameTable → List Row → Type 0
CanBelong jobs paths names rows =
    (ps ns : List Row) → AreNames paths ps → AreNames names ns → IsTable ps → IsTable ns
    → FormFiles (map (λ (j : JobRows). j.row) jobs) (map (shown_row ps ns) rows)

-- the rows of version 2 were put into the table of files in this tree, which had none
abbrev pub PutsFiles : ℕ → OldFiles → NameTable → View → View → Type 0
PutsFiles tree files names old new =
    (rows ns : List Row) → AreFiles files rows → AreNames names ns → IsTable ns → IsTable rows
    → old.trees tree ≡ [] → HasFiles tree old new (map (moved_row ns) rows)

-- ---- jobs and spans

-- this shows a row of Job
abbrev pub ShowsJob : NameTable → NameTable → Row → Row → Type 0
ShowsJob clients filesets row shown =
    (cs fs : List Row) → AreNames clients cs → AreNames filesets fs → IsTable cs → IsTable fs → shown ≡ job_shown cs fs row

-- these show the rows of Job
abbrev pub ShowJobs : NameTable → NameTable → List Row → List Row → Type 0
ShowJobs clients filesets rows shown =
    (cs fs : List Row) → AreNames clients cs → AreNames filesets fs → IsTable cs → IsTable fs → shown ≡ map (job_shown cs fs) rows

-- these show the rows of JobMedia
abbrev pub ShowSpans : NameTable → List Row → List Row → Type 0
ShowSpans media rows shown = (ms : List Row) → AreNames media ms → IsTable ms → shown ≡ map (span_shown ms) rows

-- these are the jobs without their files
abbrev pub AreBareJobs : OldLayout → Trees → List JobRows → Type 0
AreBareJobs l trees history = AreSorted l trees → read_loaded (jobs_in l trees) (spans_in l trees) [] ≡ Ok history

-- ---- the whole

-- version 2 was written over the catalogue of version 1 that was read
abbrev pub WritesNew : OldSchema → Old → View → View → Type 0
WritesNew tables old before after =
    IsOldIn tables.schema tables.layout before.trees → IsReadOld tables.layout old before.trees
    → IsWritten tables.schema tables.layout old.version before after

-- The trees listed a schema of version 1. If the database was sound, its rows formed this number of
-- jobs, and those of version 2 form the same.
abbrev pub CountsJobs : Trees → Trees → ℕ → Type 0
CountsJobs old new n = (schema : Schema) × (l : OldLayout) × IsOldIn schema l old × (IsDatabase (database schema old) → KeepsJobs old new n)
