-- The newest of the copies of a path, one copy after another.
use Rattle.std.specs.Prelude.{◌≡◌, ℕ, Bool, true, ◌&&◌, if◌then◌else◌, List, [], ◌∷◌, map, flat_map, Option, Some, None, option_map, fold}
use Rattle.std.specs.Borrow.{Bor}
use Rattle.std.specs.List.{AllByRecursion}
use Rattle.std.specs.Ordering.{nat_cmp, is_lt}
use Rattle.std.specs.Cmp.Lexicographic.{slice_cmp}
use Rattle.std.specs.BTreeMap.{BTreeMap, IsOrdered, get_by}
use Rattle.br_model.specs.Job.{FileRow, JobRows, are_rows}
use Rattle.br_model.specs.View.{is_row_of}

-- a row of a job
abbrev pub Copy : Type 0
Copy = JobRows × FileRow

-- copies are ordered by start time and number of the job, then by index
abbrev pub copy_rank : Copy → List ℕ
copy_rank c = c.0.row.start ∷ c.0.row.id ∷ c.1.index ∷ []

-- whether the second copy is newer than the first
abbrev pub is_newer : Copy → Copy → Bool
is_newer c d = is_lt (slice_cmp nat_cmp (copy_rank c) (copy_rank d))

-- whether a copy is newer than an earlier one, if there is one
abbrev pub is_news : Option Copy → Copy → Bool
is_news None d = true
is_news (Some c) d = is_newer c d

-- the newest copy of a path after one more copy
abbrev pub kept : List ℕ → Option Copy → Copy → Option Copy
kept path o c = if is_row_of path c.1 && is_news o c then Some c else o

-- the copies that a job has
abbrev pub job_copies : JobRows → List Copy
job_copies j = map (λ (f : FileRow). (j, f)) j.files

-- the copies that some jobs have
abbrev pub copies : List JobRows → List Copy
copies jobs = flat_map job_copies jobs

-- the newest copy of a path among some, and an earlier one
abbrev pub newest : List ℕ → Option Copy → List Copy → Option Copy
newest path o cs = fold (kept path) o cs

-- what a map stores for a copy
abbrev pub Kept : Type 0
Kept = Bor JobRows × Bor FileRow

-- the copy that a map entry stores
abbrev pub copy_of : Kept → Copy
copy_of p = (p.0.now, p.1.now)

-- the copy that a map has at a path
abbrev pub copy_at : List ℕ → BTreeMap (Bor (List ℕ)) Kept → Option Copy
copy_at path m = option_map copy_of (get_by (λ k. slice_cmp nat_cmp path k.now) m)

-- the second map has at each path the newest of the first map's copy and of some copies
abbrev pub Adds : BTreeMap (Bor (List ℕ)) Kept → List Copy → BTreeMap (Bor (List ℕ)) Kept → Type 0
Adds old cs new = (path : List ℕ) → copy_at path new ≡ newest path (copy_at path old) cs

-- the map has the newest copy at each path of the jobs, whose rows are consistent
pub record IsNewest (jobs : List JobRows) (m : BTreeMap (Bor (List ℕ)) Kept) : Type 0 where
  pub at_path : (path : List ℕ) → copy_at path m ≡ newest path None (copies jobs)
  pub valid : AllByRecursion (λ j. are_rows j ≡ true) jobs

-- the paths of a map ascend
abbrev pub AreOrdered : BTreeMap (Bor (List ℕ)) Kept → Type 0
AreOrdered m = IsOrdered (λ p q. slice_cmp nat_cmp p.now q.now) m
