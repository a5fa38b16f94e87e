-- The history of the rows of a catalogue.
use Rattle.std.specs.Prelude.{◌≡◌, ℕ, ◌++◌, Bool, false, not, ◌==◌, nat_le, if◌then◌else◌, List, Vec, [], ◌∷◌, map, filter, Option, Some, None, is_some, Result, Ok, Err}
use Rattle.std.specs.List.{list_all, list_any}
use Rattle.std.specs.Borrow.{Bor}
use Rattle.std.specs.Ordering.{nat_cmp}
use Rattle.std.specs.BTreeMap.{BTreeMap, get}
use Rattle.std.specs.Global.{Global}
use Rattle.sqlite.specs.declared.types.Value.{Value}
use Rattle.sqlite.specs.Order.{Row, column}
use Rattle.br_model.specs.Answer.{◌>>=◌, refuse_if}
use Rattle.br_model.specs.Job.{JobRow, Span, JobRows, checked_rows, no_pair, clash}
use Rattle.br_history.specs.Needed.{with_needed}
use Rattle.br_catalog_rows.specs.Decode.{natural, small, refused, read_job, read_span, read_file}
use Rattle.br_catalog_rows.specs.Rows.{Rows}

-- each row read, or 47 if one cannot be read
unfoldable pub read_all : {A X : Type 0} → (A → Result X ℕ) → List A → Result (List X) ℕ
read_all read [] = Ok []
read_all read (a ∷ rest) = do
  x ← read a
  xs ← read_all read rest
  Ok (x ∷ xs)

-- this number was read
abbrev pub is_read : ℕ → Result ℕ ℕ → Bool
is_read n (Ok m) = n == m
is_read n (Err e) = false

-- 47 unless the number is 2
unfoldable pub check_first : Value → Result (Unit {0}) ℕ
check_first v = do
  n ← natural v
  refuse_if (not (n == 2)) 47

-- 47 unless there is one version, which is 2
abbrev pub check_version : List Row → Result (Unit {0}) ℕ
check_version (row ∷ []) = check_first (column row 0)
check_version _ = Err 47

-- the row of a span or a file belongs to the job with this number
abbrev pub is_of : ℕ → Row → Bool
is_of id row = is_read id (small (column row 0))

-- the row belongs to one of these jobs
abbrev pub has_job : List JobRow → Row → Bool
has_job jobs row = list_any (λ (j : JobRow). is_of j.id row) jobs

-- the rows of each job, or 47 if one belongs to none of these jobs
unfoldable pub by_job : List JobRow → List Row → Result (ℕ → List Row) ℕ
by_job jobs rows = if list_all (has_job jobs) rows then Ok (λ id. filter (is_of id) rows) else Err 47

-- a span is inserted before the first span whose number is not below its own
unfoldable pub put_span : Span → List Span → List Span
put_span s [] = s ∷ []
put_span s (t ∷ ts) = if nat_le s.vol_index t.vol_index then s ∷ t ∷ ts else t ∷ put_span s ts

-- spans in order of their numbers
unfoldable pub by_number : List Span → List Span
by_number [] = []
by_number (s ∷ ss) = put_span s (by_number ss)

-- a job with its spans and its files, or 47 if they cannot be read or do not fit together
unfoldable pub read_rows : (ℕ → List Row) → (ℕ → List Row) → JobRow → Result JobRows ℕ
read_rows spans files job = do
  s ← read_all read_span (spans job.id)
  f ← read_all read_file (files job.id)
  refused (checked_rows (record { row = job; files = f; spans = by_number s }))

-- jobs of different numbers and sessions, else 47
unfoldable pub if_apart : List JobRows → Result (List JobRows) ℕ
if_apart jobs = if no_pair clash jobs then Ok jobs else Err 47

-- the history of the rows of jobs, spans and files
unfoldable pub read_loaded : List Row → List Row → List Row → Result (List JobRows) ℕ
read_loaded job_rows span_rows file_rows = do
  jobs ← read_all read_job job_rows
  spans ← by_job jobs span_rows
  files ← by_job jobs file_rows
  whole ← read_all (read_rows spans files) jobs
  if_apart whole

-- The history of the rows of a catalogue: the jobs in the order of their rows, each with its spans
-- in order of their numbers and its files in the order of their rows. 47 if the version is not the
-- one row 2, or the rows form no history.
unfoldable pub read_history : Rows → Result (List JobRows) ℕ
read_history rows = do
  _ ← check_version rows.versions
  read_loaded rows.jobs rows.spans rows.files

-- ---- the rows that are looked at

-- whether the row belongs to one of the jobs with these numbers
abbrev pub is_of_any : List ℕ → Row → Bool
is_of_any ids row = list_any (λ id. is_of id row) ids

-- the rows, but of those of files only the ones that belong to the jobs with these numbers
abbrev pub with_files_of : List ℕ → Rows → Rows
with_files_of ids rows = record rows { files = filter (is_of_any ids) rows.files }

-- the rows without those of files
abbrev pub without_files : Rows → Rows
without_files rows = record rows { files = [] }

-- The history of the rows of which those of files are read that are needed: first of the rows without
-- those of files, and then with those of the jobs whose files that history needs. 47 if the rows that
-- are read form no history.
unfoldable pub read_needed : (List JobRows → List ℕ) → Rows → Result (List JobRows) ℕ
read_needed needed rows = do
  jobs ← read_history (without_files rows)
  read_history (with_files_of (needed jobs) rows)

-- A law about rows that form a history: what is read of them is that history, of which those jobs
-- alone have files whose files are needed.
abbrev pub NeededLoads : Type 0
NeededLoads =
    (needed : List JobRows → List ℕ) (rows : Rows) (history : List JobRows) → read_history rows ≡ Ok history
    → read_needed needed rows ≡ Ok (with_needed needed history)

-- ---- rows held by job

-- the rows at an entry, none if there is no entry
abbrev pub held : Option (Vec (Bor Row) Global) → List Row
held None = []
held (Some rows) = map (λ (b : Bor Row). b.now) rows.items

abbrev pub group_of : BTreeMap ℕ (Vec (Bor Row) Global) → ℕ → List Row
group_of places id = held (get nat_cmp places id)

abbrev pub has : BTreeMap ℕ (Vec (Bor Row) Global) → ℕ → Bool
has places id = is_some (get nat_cmp places id)

-- a row was appended to those of a number
pub record Puts (old : BTreeMap ℕ (Vec (Bor Row) Global)) (id : ℕ) (row : Row) (new : BTreeMap ℕ (Vec (Bor Row) Global)) : Type 0 where
  pub rows : (q : ℕ) → group_of new q ≡ group_of old q ++ (if id == q then row ∷ [] else [])
  pub places : (q : ℕ) → has new q ≡ has old q
