-- The rows of files, as they are read one after another.
use Rattle.std.specs.Prelude.{◌≡◌, ℕ, true, ◌==◌, List, filter, Ok}
use Rattle.std.specs.List.{list_all, list_any}
use Rattle.std.specs.BTreeMap.{BTreeMap}
use Rattle.br_catalog_files.specs.declared.seen_indexes.Indexes.{Indexes}
use Rattle.sqlite.specs.Order.{Row}
use Rattle.br_model.specs.Job.{FileRow, JobRow, is_file_row, no_pair, same_file}
use Rattle.br_catalog_rows.specs.Decode.{read_file}
use Rattle.br_catalog_rows.specs.Load.{is_of, read_all}
use Rattle.br_catalog_rows.specs.Load as load
use Rattle.br_catalog_files.specs.SeenIndexes.{has_index, has_job, is_index}

-- the rows that belong to a job are read as files that can be those of one job, and the indexes of these are noted
pub record AreFilesOf (seen : BTreeMap ℕ Indexes) (shown : List Row) (id : ℕ) : Type 0 where
  pub files : List FileRow
  pub read : read_all read_file (filter (is_of id) shown) ≡ Ok files
  pub valid : list_all is_file_row files ≡ true
  pub apart : no_pair same_file files ≡ true
  pub indexes : (i : ℕ) → has_index seen id i ≡ list_any (λ (f : FileRow). is_index f.index i) files

-- each row belongs to one of these jobs, and those of each job are files
pub record AreWhole (jobs : List JobRow) (seen : BTreeMap ℕ Indexes) (shown : List Row) : Type 0 where
  pub known : (id : ℕ) → has_job seen id ≡ list_any (λ (j : JobRow). j.id == id) jobs
  pub belong : list_all (load.has_job jobs) shown ≡ true
  pub files : (id : ℕ) → AreFilesOf seen shown id

-- rows of files are those of a history with these jobs
abbrev pub FormFiles : List JobRow → List Row → Type 0
FormFiles jobs shown = (seen : BTreeMap ℕ Indexes) × AreWhole jobs seen shown
