-- The rows of the catalogue with names in place of numbers, and what a job adds to them.
use Rattle.std.specs.Prelude.{ℕ, pos, List, [], ◌∷◌, ◌++◌, map}
use Rattle.sqlite.specs.declared.types.Value.TheVariants.{Int}
use Rattle.sqlite.specs.Order.{Row}
use Rattle.sqlite.specs.Tree.{put_row}
use Rattle.br_model.specs.Job.{JobRow, FileRow, Span, JobRows}
use Rattle.br_catalog_rows.specs.Decode.{job_row, span_row, file_row}

-- The catalogue's rows: its versions, the jobs in order of JobId, the spans in order of JobMediaId
-- and the files in order of FileId, with names where the tables have numbers.
pub record Rows : Type 0 where
  pub versions : List Row
  pub jobs : List Row
  pub spans : List Row
  pub files : List Row

-- ---- columns of the rows of jobs

abbrev pub shown_number : ℕ
shown_number = 0

abbrev pub shown_session : ℕ
shown_session = 7

abbrev pub shown_session_time : ℕ
shown_session_time = 8

-- ---- a job added to the rows

-- the job's own row is added in order of its number
abbrev pub with_job : JobRow → Rows → Rows
with_job j rows = record rows { jobs = put_row (job_row j) rows.jobs }

-- the rows of a job's spans are appended
abbrev pub with_spans : ℕ → List Span → Rows → Rows
with_spans id spans rows = record rows { spans = rows.spans ++ map (span_row id) spans }

-- the rows of a job's files are appended
abbrev pub with_files : ℕ → List FileRow → Rows → Rows
with_files id files rows = record rows { files = rows.files ++ map (file_row id) files }

-- one row of a file is appended
abbrev pub with_file_row : Row → Rows → Rows
with_file_row row rows = record rows { files = rows.files ++ row ∷ [] }

-- the rows of one more job are added
abbrev pub with_rows : JobRows → Rows → Rows
with_rows j rows = with_files j.row.id j.files (with_spans j.row.id j.spans (with_job j.row rows))

-- the rows of a catalogue with no job, which is of version 2
abbrev pub no_rows : Rows
no_rows = record { versions = (Int (pos 2) ∷ []) ∷ []; jobs = []; spans = []; files = [] }
