-- What is wrong with the rows of a catalogue.
use Rattle.std.specs.Prelude.{◌≡◌, ℕ, ◌+◌, ◌==◌, Bool, false, List, [], ◌∷◌, Option, Some, IfSome, is_none, codes, map, slice_get, Result, Ok, Err, ⊤}
use Rattle.sqlite.specs.Order.{Row, column}
use Rattle.br_model.specs.Job.{JobRow, JobRows}
use Rattle.std.specs.List.{list_any}
use Rattle.std.specs.Result.{is_ok}
use Rattle.br_catalog_rows.specs.Decode.{read_job, small}
use Rattle.br_catalog_rows.specs.Load.{by_job, read_all, read_history, read_rows}
use Rattle.br_catalog_rows.specs.Rows.{Rows}
use Rattle.br_catalog_rows.specs.Wrong.{first_wrong}
use Rattle.br_catalog_rows.specs.declared.wrong_rows.Column.{Column}
use Rattle.br_catalog_rows.specs.declared.wrong_rows.ColumnKind.{ColumnKind}
use Rattle.br_catalog_rows.specs.declared.wrong_rows.ColumnKind.TheVariants.{Positive, Small, Natural, Letter, Name, VolumeName, Path, Characters, Digest}
use Rattle.br_catalog_rows.specs.declared.wrong_rows.Table.{Table}
use Rattle.br_catalog_rows.specs.declared.wrong_rows.Table.TheVariants as table
use Rattle.br_catalog_rows.specs.declared.wrong_rows.WrongRows.{WrongRows}
use Rattle.br_catalog_rows.specs.declared.wrong_rows.WrongRows.TheVariants as wrong

-- a column with its name as bytes
pub record Rule : Type 0 where
  pub at : ℕ
  pub name : List ℕ
  pub kind : ColumnKind

abbrev pub rule : ℕ → List ℕ → ColumnKind → Rule
rule at name kind = record { at = at; name = name; kind = kind }

abbrev pub rule_of : Column → Rule
rule_of c = rule c.at c.name.now c.kind

-- the columns of a table, as queries show them
abbrev pub rules_of : Table → List Rule
rules_of table.Job =
    rule 0 (codes "JobId") Positive ∷ rule 1 (codes "Type") Letter ∷ rule 2 (codes "Level") Letter ∷ rule 3 (codes "Name of its Client") Name
    ∷ rule 4 (codes "JobStatus") Letter ∷ rule 5 (codes "StartTime") Natural ∷ rule 6 (codes "FileSet of its FileSet") Name
    ∷ rule 7 (codes "VolSessionId") Small ∷ rule 8 (codes "VolSessionTime") Small ∷ []
rules_of table.JobMedia =
    rule 0 (codes "JobId") Small ∷ rule 1 (codes "VolumeName of its Media") VolumeName ∷ rule 2 (codes "FirstIndex") Small
    ∷ rule 3 (codes "LastIndex") Small ∷ rule 4 (codes "StartFile") Small ∷ rule 5 (codes "EndFile") Small ∷ rule 6 (codes "StartBlock") Small
    ∷ rule 7 (codes "EndBlock") Small ∷ rule 8 (codes "VolIndex") Small ∷ []
rules_of table.File =
    rule 0 (codes "JobId") Small ∷ rule 1 (codes "FileIndex") Small ∷ rule 2 (codes "Path of its Path with Filename") Path
    ∷ rule 4 (codes "LStat") Characters ∷ rule 5 (codes "MD5") Digest ∷ []

-- the first column of the table that is wrong in one of its rows
pub record IsFirstCell (t : Table) (rows : List Row) (row : ℕ) (name : List ℕ) : Type 0 where
  pub columns : List Column
  pub rules : map rule_of columns ≡ rules_of t
  pub at : ℕ
  pub first : Column
  pub counted : row ≡ at + 1
  pub named : name ≡ first.name.now
  pub found : first_wrong columns 0 rows ≡ Some (at, first)

abbrev pub IsCell : Table → List Row → WrongRows → Type 0
IsCell t rows (wrong.Column u row name) = (u ≡ t) × IsFirstCell t rows row name.now
IsCell t rows _ = ⊥

-- the job of a row of the table is none of these
-- the job of a row of the table is none of these
pub record LacksJob (has : ℕ → Bool) (rows : List Row) (row : ℕ) : Type 0 where
  pub at : ℕ
  pub of_job : Row
  pub id : ℕ
  pub counted : row ≡ at + 1
  pub found : slice_get rows at ≡ Some of_job
  pub read : small (column of_job 0) ≡ Ok id
  pub lacks : has id ≡ false

abbrev pub IsJobless : (ℕ → Bool) → Table → List Row → WrongRows → Type 0
IsJobless has t rows (wrong.Jobless u row) = (u ≡ t) × LacksJob has rows row
IsJobless has t rows _ = ⊥

-- one of the jobs has this number, and its spans and files do not fit together
pub record IsRefused (read : JobRow → Result JobRows ℕ) (jobs : List JobRow) (id : ℕ) : Type 0 where
  pub at : ℕ
  pub job : JobRow
  pub found : slice_get jobs at ≡ Some job
  pub number : id ≡ job.id
  pub refused : read job ≡ Err 47

abbrev pub IsJob : (JobRow → Result JobRows ℕ) → List JobRow → WrongRows → Type 0
IsJob read jobs (wrong.Job id) = IsRefused read jobs id
IsJob read jobs _ = ⊥

-- the jobs of rows, if each can be read
abbrev pub has_id : List JobRow → ℕ → Bool
has_id jobs id = list_any (λ (j : JobRow). j.id == id) jobs

-- the rows of this number belong to no job of the rows
abbrev pub IsWithoutJob : Rows → List Row → ℕ → Type 0
IsWithoutJob rows some row = (jobs : List JobRow) × (read_all read_job rows.jobs ≡ Ok jobs) × LacksJob (has_id jobs) some row

-- the spans and files of a job of the rows do not fit together
pub record HasWrongJob (rows : Rows) (id : ℕ) : Type 0 where
  pub jobs : List JobRow
  pub spans : ℕ → List Row
  pub files : ℕ → List Row
  pub jobs_are : read_all read_job rows.jobs ≡ Ok jobs
  pub spans_are : by_job jobs rows.spans ≡ Ok spans
  pub files_are : by_job jobs rows.files ≡ Ok files
  pub refused : IsRefused (read_rows spans files) jobs id

-- the rows of a table
abbrev pub rows_of_table : Table → Rows → List Row
rows_of_table table.Job rows = rows.jobs
rows_of_table table.JobMedia rows = rows.spans
rows_of_table table.File rows = rows.files

-- this is wrong with the rows
abbrev pub IsWrong : Rows → WrongRows → Type 0
IsWrong rows (wrong.Column t row name) = IsFirstCell t (rows_of_table t rows) row name.now
IsWrong rows (wrong.Jobless t row) = IsWithoutJob rows (rows_of_table t rows) row
IsWrong rows (wrong.Job id) = HasWrongJob rows id
IsWrong rows wrong.Contradiction = ⊤

-- something is told if the rows form no history, and what is told is so
abbrev pub TellsWrong : Rows → Option WrongRows → Type 0
TellsWrong rows told = (is_none told ≡ is_ok (read_history rows)) × IfSome told (IsWrong rows)
