-- When the refusal of a migration is 47.
use Rattle.std.specs.Prelude.{◌≡◌, ◌≢◌, ◌<◌, ◌^◌, ℕ, ℤ, pos, Bool, true, false, not, ◌&&◌, ◌==◌, List, map, filter, is_ok, Ok, IsTrue}
use Rattle.std.specs.List.{AllByRecursion, list_all, list_any}
use Rattle.std.specs.BTreeMap.{BTreeMap}
use Rattle.sqlite.specs.declared.types.Value.{Value}
use Rattle.sqlite.specs.declared.types.Value.TheVariants.{Blob, Int, Null, Text}
use Rattle.sqlite.specs.Order.{Row, column}
use Rattle.sqlite.specs.Schema.{Schema}
use Rattle.sqlite.specs.Tree.{Trees, IsTable, rowid}
use Rattle.sqlite.specs.View.{is_int}
use Rattle.br_model.specs.Job.{FileRow, JobRow, JobRows, is_file_row, no_pair, same_file}
use Rattle.br_catalog_rows.specs.Decode.{read_file, small}
use Rattle.br_catalog_rows.specs.Load.{is_of, read_all}
use Rattle.br_catalog_rows.specs.Load as load
use Rattle.br_catalog_rows.specs.declared.fault.StoreFault.{StoreFault}
use Rattle.br_catalog_rows.specs.declared.fault.StoreFault.TheVariants.{Memory, Store, BadCatalogue, OldCatalogue}
use Rattle.br_catalog_tables.specs.declared.old_schema.OldLayout.{OldLayout}
use Rattle.br_catalog_tables.specs.TreePlaces.{file_filename, file_index, file_job, file_lstat, file_md5, file_path, job_client, job_fileset, row_number, span_media}
use Rattle.br_store.specs.Held.{name_at}
use Rattle.br_catalog_files.specs.Moved.{database, version_rows}
use Rattle.br_catalog_files.specs.Old.{HasOld, old_rows_in, read_old}
use Rattle.br_catalog_files.specs.OldFiles.{shown_row}
use Rattle.br_catalog_files.specs.OldNames.{AreNames}
use Rattle.br_catalog_files.specs.OldRead.{AreSorted, FormJobs}
use Rattle.br_catalog_files.specs.SeenIndexes.{has_index, has_job}
use Rattle.br_catalog_files.specs.declared.old_names.NameTable.{NameTable}
use Rattle.br_catalog_files.specs.declared.seen_indexes.Indexes.{Indexes}

-- the refusal is 47
abbrev pub is_bad : StoreFault → Bool
is_bad Memory = false
is_bad (Store why) = false
is_bad BadCatalogue = true
is_bad OldCatalogue = false

-- the refusal is another one than 47
abbrev pub IsOther : StoreFault → Type 0
IsOther fault = is_bad fault ≡ false

-- ---- references

-- Each row of jobs, spans and files refers to rows of other tables by integers, as SQLite stores them.
-- A real number may equal an integer, too.
pub record AreLinked (l : OldLayout) (trees : Trees) : Type 0 where
  pub jobs : AllByRecursion (λ r. IsTrue (is_int (column r job_client)) × IsTrue (is_int (column r job_fileset))) (trees l.job)
  pub spans : AllByRecursion (λ r. IsTrue (is_int (column r span_media))) (trees l.job_media)
  pub files : AllByRecursion (λ r. IsTrue (is_int (column r file_path)) × IsTrue (is_int (column r file_filename))) (trees l.file)

-- each row has a number
abbrev pub HaveNumbers : List Row → Type 0
HaveNumbers rows = AllByRecursion (λ r. IsTrue (is_int (rowid r))) rows

-- the value is a number that has a name among these
pub record CanName (names : NameTable) (v : Value) : Type 0 where
  pub rows : List Row
  pub are : AreNames names rows
  pub sorted : IsTable rows
  pub id : ℤ
  pub is : v ≡ Int id
  pub named : name_at rows v ≢ Null

-- the number has this path or name of a file
pub record CanGive (names : NameTable) (v : Value) (bytes : List ℕ) : Type 0 where
  pub rows : List Row
  pub are : AreNames names rows
  pub sorted : IsTable rows
  pub named : name_at rows v ≡ Blob bytes

-- the names of a row of Job are there
abbrev pub CanShowJob : NameTable → NameTable → Row → Type 0
CanShowJob clients filesets row = CanName clients (column row job_client) × CanName filesets (column row job_fileset)

-- the name of a row of JobMedia is there
abbrev pub CanShowSpan : NameTable → Row → Type 0
CanShowSpan media row = CanName media (column row span_media)

-- the names of each row of Job are there
abbrev pub CanShowJobs : NameTable → NameTable → List Row → Type 0
CanShowJobs clients filesets rows = AllByRecursion (CanShowJob clients filesets) rows

-- ---- files

-- the numbers of a row of File and of its path and its name are integers
pub record IsFileLinked (row : Row) : Type 0 where
  pub id : ℤ
  pub path : ℤ
  pub name : ℤ
  pub id_is : column row row_number ≡ Int id
  pub path_is : column row file_path ≡ Int path
  pub name_is : column row file_filename ≡ Int name

-- the values of a row of File have the types of their columns
pub record IsTypedFile (row : Row) : Type 0 where
  pub linked : IsFileLinked row
  pub index : ℕ
  pub job : ℕ
  pub lstat : List ℕ
  pub digest : List ℕ
  pub index_low : index < 2 ^ 32
  pub job_low : job < 2 ^ 32
  pub index_is : column row file_index ≡ Int (pos index)
  pub job_is : column row file_job ≡ Int (pos job)
  pub lstat_is : column row file_lstat ≡ Text lstat
  pub digest_is : column row file_md5 ≡ Text digest

-- a history can have the file of this row, beside those that were seen
pub record CanTake (paths names : NameTable) (seen : BTreeMap ℕ Indexes) (row : Row) : Type 0 where
  pub ps : List Row
  pub ns : List Row
  pub paths_are : AreNames paths ps
  pub names_are : AreNames names ns
  pub paths_sorted : IsTable ps
  pub names_sorted : IsTable ns
  pub linked : IsFileLinked row
  pub job : ℕ
  pub job_is : small (column row file_job) ≡ Ok job
  pub file : FileRow
  pub read : read_file (shown_row ps ns row) ≡ Ok file
  pub valid : is_file_row file ≡ true
  pub known : has_job seen job ≡ true
  pub fresh : (not (file.index == 0) && has_index seen job file.index) ≡ false

-- the rows that belong to a job are read as files that can be those of one job
pub record AreFilesFor (shown : List Row) (id : ℕ) : Type 0 where
  pub files : List FileRow
  pub read : read_all read_file (filter (is_of id) shown) ≡ Ok files
  pub valid : list_all is_file_row files ≡ true
  pub apart : no_pair same_file files ≡ true

-- a history with these jobs can have the files of these rows
pub record CanTakeAll (jobs : List JobRow) (paths names : NameTable) (rows : List Row) : Type 0 where
  pub ps : List Row
  pub ns : List Row
  pub paths_are : AreNames paths ps
  pub names_are : AreNames names ns
  pub paths_sorted : IsTable ps
  pub names_sorted : IsTable ns
  pub linked : AllByRecursion IsFileLinked rows
  pub belong : list_all (load.has_job jobs) (map (shown_row ps ns) rows) ≡ true
  pub files : (id : ℕ) → list_any (λ (j : JobRow). j.id == id) jobs ≡ true → AreFilesFor (map (shown_row ps ns) rows) id

-- a history with the rows of these jobs can have the files of these rows
abbrev pub CanTakeFiles : List JobRows → NameTable → NameTable → List Row → Type 0
CanTakeFiles jobs paths names rows = CanTakeAll (map (λ (j : JobRows). j.row) jobs) paths names rows

-- ---- the whole

-- the rows are those of a history, and refer to one another by integers
pub record FormHistory (l : OldLayout) (trees : Trees) : Type 0 where
  pub id : ℤ
  pub version_is : trees l.version ≡ version_rows id 1
  pub sorted : AreSorted l trees
  pub linked : AreLinked l trees
  pub all : List JobRows
  pub loaded : FormJobs l trees all

-- a catalogue of version 1 whose rows are those of a history
pub record IsOldHistory (trees : Trees) : Type 0 where
  pub schema : Schema
  pub layout : OldLayout
  pub has : HasOld layout (database schema trees)
  pub forms : FormHistory layout trees

-- if the trees are those of a catalogue of version 1, its rows form no history
abbrev pub FormNoHistory : Trees → Type 0
FormNoHistory trees = (schema : Schema) (l : OldLayout) → HasOld l (database schema trees) → AreLinked l trees → is_ok (read_old (old_rows_in trees)) ≡ false

-- 47 is the refusal only of rows that form no history
abbrev pub RefusesRows : Trees → StoreFault → Type 0
RefusesRows trees fault = fault ≡ BadCatalogue → FormNoHistory trees
