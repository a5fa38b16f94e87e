-- The groups of jobs from the files of the selected entries, which are in order.
use Rattle.std.specs.Prelude.{ℕ, ◌+◌, Bool, ◌&&◌, ◌||◌, ◌==◌, nat_lt, nat_le, if◌then◌else◌, List, [], ◌∷◌, map, filter, flat_map, Contains}
use Rattle.std.specs.Int.{is_in_range}
use Rattle.std.specs.List.Sorted.{IsStrictlySortedBy}
use Rattle.br_model.specs.Bootstrap.{Range, Group}
use Rattle.br_model.specs.Text.{is_empty}
use Rattle.br_model.specs.Job.{Span, JobRows}
use Rattle.br_model.specs.Plan.{span_group}
use Rattle.br_model.specs.View.{Entry}
use Rattle.br_plan.specs.Selected.{FileOf, file_cmp, file_of}

-- each file is before those after it
abbrev pub Rise : List FileOf → Type 0
Rise files = IsStrictlySortedBy file_cmp files

-- the files of the entries, in order, each once
pub record AreFiles (entries : List Entry) (files : List FileOf) : Type 0 where
  pub rise : Rise files
  pub from : (f : FileOf) → Contains files f → Contains (map file_of entries) f
  pub has : (f : FileOf) → Contains (map file_of entries) f → Contains files f

-- whether the file is before the job's file with this index
abbrev pub is_before : ℕ → ℕ → FileOf → Bool
is_before job first file = nat_lt file.0 job || file.0 == job && nat_lt file.1 first

-- whether the file is not after the job's file with this index
abbrev pub is_up_to : ℕ → ℕ → FileOf → Bool
is_up_to job last file = nat_lt file.0 job || file.0 == job && nat_le file.1 last

-- whether the file is of the job and has a part in the span
abbrev pub is_within : ℕ → Span → FileOf → Bool
is_within job s file = file.0 == job && is_in_range s.first s.last file.1

-- the indexes of files
abbrev pub indexes_of : List FileOf → List ℕ
indexes_of files = map (λ (f : FileOf). f.1) files

-- the indexes of those files of a job that have a part in the span
abbrev pub part_of : List FileOf → JobRows → Span → List ℕ
part_of files j s = indexes_of (filter (is_within j.row.id s) files)

-- a group for a span with a part of a file
abbrev pub groups_of_span : List FileOf → JobRows → Span → List Group
groups_of_span files j s = if is_empty (part_of files j s) then [] else span_group j.row.session s (part_of files j s) ∷ []

-- a group for each span of a job with a part of a file
abbrev pub groups_of_job : List FileOf → JobRows → List Group
groups_of_job files j = flat_map (groups_of_span files j) j.spans

-- the groups of jobs
abbrev pub groups_of_jobs : List FileOf → List JobRows → List Group
groups_of_jobs files jobs = flat_map (groups_of_job files) jobs

-- ranges with one more at the end, which joins the last one if it is adjacent
abbrev pub with_run : List Range → ℕ → ℕ → List Range
with_run [] low high = record { low = low; high = high } ∷ []
with_run (r ∷ []) low high = if r.high + 1 == low then record { low = r.low; high = high } ∷ [] else r ∷ record { low = low; high = high } ∷ []
with_run (r ∷ s ∷ rs) low high = r ∷ with_run (s ∷ rs) low high

-- the same for one number
abbrev pub with_number : List Range → ℕ → List Range
with_number rs i = with_run rs i i
