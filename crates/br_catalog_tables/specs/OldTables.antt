-- The tables of version 1: the name of a file has a table of its own, and a row of File has its
-- number.
use Rattle.std.specs.Prelude.{ℕ, ◌^◌, ◌==◌, ◌&&◌, Bool, if◌then◌else◌, nat_le, not, [], ◌∷◌, codes, List}
use Rattle.sqlite.specs.Table.{Table}
use Rattle.sqlite.specs.Kind.TheVariants.{Integer, Text, Any}
use Rattle.sqlite_schema.specs.declared.schema.Column.{Column}
use Rattle.sqlite_schema.specs.declared.schema.Index.{Index}
use Rattle.sqlite_schema.specs.declared.schema.Reference.{Reference}
use Rattle.br_catalog_tables.specs.TreePlaces.{Layout, name_column, file_job, file_path, file_filename}
use Rattle.br_catalog_tables.specs.Tables.{column, key_column, refers, keyed_table}
use Rattle.br_catalog_tables.specs.Tables.{version, client, fileset, media, path, job, job_media}
use Rattle.br_catalog_tables.specs.declared.old_schema.OldLayout.{OldLayout}

abbrev pub filename_columns : List Column
filename_columns = key_column (codes "FilenameId") ∷ column (codes "Name") Any ∷ []

abbrev pub filename : ℕ → Table
filename tree = keyed_table (codes "Filename") tree filename_columns ((name_column ∷ []) ∷ []) []

abbrev pub old_file_columns : List Column
old_file_columns =
    key_column (codes "FileId") ∷ column (codes "FileIndex") Integer
    ∷ column (codes "JobId") Integer ∷ column (codes "PathId") Integer
    ∷ column (codes "FilenameId") Integer ∷ column (codes "LStat") Text
    ∷ column (codes "MD5") Text ∷ []

abbrev pub old_file_references : List Reference
old_file_references =
    refers file_job (codes "Job") (codes "JobId") ∷ refers file_path (codes "Path") (codes "PathId")
    ∷ refers file_filename (codes "Filename") (codes "FilenameId") ∷ []

abbrev pub old_file : ℕ → Table
old_file tree = keyed_table (codes "File") tree old_file_columns [] old_file_references

-- the tables of version 1 in these trees
abbrev pub old_tables_at : OldLayout → List Table
old_tables_at l =
    version l.version ∷ client l.client ∷ fileset l.fileset ∷ media l.media ∷ path l.path ∷ filename l.filename ∷ job l.job
    ∷ job_media l.job_media ∷ old_file l.file ∷ []

-- their trees
abbrev pub old_trees : OldLayout → List ℕ
old_trees l = l.version ∷ l.client ∷ l.fileset ∷ l.media ∷ l.path ∷ l.filename ∷ l.job ∷ l.job_media ∷ l.file ∷ []

-- the trees of the tables of version 2 that a migration makes of them
abbrev pub moved_layout : OldLayout → Layout
moved_layout l = record {
  version = l.version;
  client = l.client;
  fileset = l.fileset;
  media = l.media;
  path = l.path;
  job = l.job;
  job_media = l.job_media;
  file = l.file;
}

abbrev pub moved_trees : OldLayout → List ℕ
moved_trees l = l.version ∷ l.client ∷ l.fileset ∷ l.media ∷ l.path ∷ l.job ∷ l.job_media ∷ l.file ∷ []

-- a migration neither drops this tree nor makes it again
abbrev pub spares_tree : OldLayout → ℕ → Bool
spares_tree l tree = not (tree == l.filename) && (not (tree == l.filename_index) && not (tree == l.file))

-- a migration leaves this tree as it is
abbrev pub keeps_tree : OldLayout → ℕ → Bool
keeps_tree l tree = not (nat_le (2 ^ 31) tree) && (not (tree == l.version) && spares_tree l tree)

-- the index may be beside the tables of version 1: it is that of the names of files, or of a table
-- that a migration leaves as it is
abbrev pub fits_index : OldLayout → Index → Bool
fits_index l i = if i.table == l.filename then i.tree == l.filename_index else keeps_tree l i.table
