-- The rows of jobs that were inserted one after another.
use Rattle.std.specs.Prelude.{◌≡◌, ◌<◌, ◌^◌, pos, Bool, true, nat_lt, if◌then◌else◌, List, [], ◌∷◌, MatchBool}
use Rattle.std.specs.List.{AllByRecursion}
use Rattle.std.specs.Str.{is_utf8}
use Rattle.sqlite.specs.declared.types.Value.TheVariants.{Int}
use Rattle.sqlite.specs.Order.{Row, column}
use Rattle.sqlite_rules.specs.Lists.{Has}
use Rattle.br_model.specs.Name.{is_path, is_volume_name}
use Rattle.br_model.specs.Job.{JobRow, JobRows, FileRow, Span, is_job_row, are_rows}
use Rattle.br_catalog_rows.specs.Decode.{IsDigest}
use Rattle.br_catalog_rows.specs.Rows.{Rows, with_rows, no_rows, shown_number, shown_session, shown_session_time}

-- the rows after jobs were inserted, the last of the list first
unfoldable pub rows_of : List JobRows → Rows
rows_of [] = no_rows
rows_of (j ∷ jobs) = with_rows j (rows_of jobs)

-- a job is inserted before the first job whose number is not below its own
unfoldable pub put_job : JobRows → List JobRows → List JobRows
put_job j [] = j ∷ []
put_job j (k ∷ ks) = if nat_lt k.row.id j.row.id then k ∷ put_job j ks else j ∷ k ∷ ks

-- jobs in order of their numbers
unfoldable pub by_id : List JobRows → List JobRows
by_id [] = []
by_id (j ∷ jobs) = put_job j (by_id jobs)

-- the numbers and the name of a span are of their types
pub record IsSpan (s : Span) : Type 0 where
  pub volume : is_volume_name s.volume ≡ true
  pub first : s.first < 2 ^ 32
  pub last : s.last < 2 ^ 32
  pub start : s.start < 2 ^ 64
  pub end : s.end < 2 ^ 64
  pub vol_index : s.vol_index < 2 ^ 32

-- the values of a file are of their types
pub record IsFileRow (f : FileRow) : Type 0 where
  pub index : f.index < 2 ^ 32
  pub path : is_path f.path ≡ true
  pub lstat : is_utf8 f.lstat ≡ true
  pub digest : IsDigest f.digest

-- the values of a job are of their types, and its files and spans fit together
pub record IsWhole (j : JobRows) : Type 0 where
  pub row : is_job_row j.row ≡ true
  pub files : AllByRecursion IsFileRow j.files
  pub spans : AllByRecursion IsSpan j.spans
  pub fit : are_rows j ≡ true

-- no job among the rows has the job's number or session
pub record IsNewIn (j : JobRow) (rows : Rows) : Type 0 where
  pub number : (r : Row) → Has rows.jobs r → column r shown_number ≡ Int (pos j.id) → ⊥
  pub session : (r : Row) → Has rows.jobs r → column r shown_session ≡ Int (pos j.session.id) → column r shown_session_time ≡ Int (pos j.session.time) → ⊥

-- a new job was added to the rows
pub record Adds (j : JobRows) (before after : Rows) : Type 0 where
  pub whole : IsWhole j
  pub fresh : IsNewIn j.row before
  pub rows : after ≡ with_rows j before

-- The rows of a fresh catalogue after each of these jobs was tried, the last of the list first. A
-- job that was accepted was added; one that was refused changed nothing.
unfoldable pub Tried : List (JobRows × Bool) → Rows → Type 0
Tried [] rows = rows ≡ no_rows
Tried (t ∷ tries) rows = (before : Rows) × Tried tries before × MatchBool t.1 (Adds t.0 before rows) (rows ≡ before)

-- the accepted jobs
unfoldable pub accepted : List (JobRows × Bool) → List JobRows
accepted [] = []
accepted (t ∷ tries) = if t.1 then t.0 ∷ accepted tries else accepted tries
