-- A catalogue of version 1, which keeps the names of files in a table of their own, and the
-- catalogue that is made from it.
use Rattle.std.specs.Prelude.{◌≡◌, ℕ, pos, if◌then◌else◌, List, [], ◌∷◌, codes, map, Result, Err}
use Rattle.sqlite.specs.declared.types.Value.TheVariants.{Int}
use Rattle.sqlite.specs.Tree.{Trees}
use Rattle.sqlite.specs.Effect.{Database, IsDatabase}
use Rattle.br_model.specs.Job.{JobRows}
use Rattle.br_catalog_rows.specs.Load.{read_loaded}
use Rattle.br_catalog_rows.specs.Rows.{Rows}
use Rattle.br_catalog_tables.specs.declared.old_schema.OldLayout.{OldLayout}
use Rattle.br_catalog_tables.specs.OldSchemas.{IsOldSchema}
use Rattle.br_store.specs.Held.{HasTables, rows_in, tree_named}
use Rattle.br_store.specs.Made.{is_first}
use Rattle.br_catalog_files.specs.OldFiles.{shown_row}
use Rattle.br_catalog_files.specs.OldRead.{AreSorted}

-- the rows in the trees of a database of version 1
abbrev pub old_rows_in : Trees → Rows
old_rows_in trees = record (rows_in trees) {
  files = map (shown_row (trees (tree_named trees (codes "Path"))) (trees (tree_named trees (codes "Filename")))) (trees (tree_named trees (codes "File")));
}

-- the history of the rows of a catalogue of version 1, else 47
abbrev pub read_old : Rows → Result (List JobRows) ℕ
read_old rows = if is_first rows.versions then read_loaded rows.jobs rows.spans rows.files else Err 47

-- these rows in a catalogue of version 2
abbrev pub renewed : Rows → Rows
renewed rows = record rows { versions = (Int (pos 2) ∷ []) ∷ [] }

-- a sound database of version 1, with its tables in these trees and their rows in ascending order
pub record HasOld (l : OldLayout) (db : Database) : Type 0 where
  pub is : IsOldSchema db.schema l
  pub sound : IsDatabase db
  pub sorted : AreSorted l db.trees

-- the catalogue has the rows that the catalogue of version 1 had
pub record IsMigrated (old new : Database) : Type 0 where
  pub tables : HasTables new
  pub rows : rows_in new.trees ≡ renewed (old_rows_in old.trees)
