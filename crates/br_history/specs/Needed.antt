-- A history in which some jobs alone have their files.
use Rattle.std.specs.Prelude.{◌≡◌, ℕ, ⊤, ◌==◌, Bool, true, if◌then◌else◌, List, [], map, Result, Ok, Err}
use Rattle.std.specs.List.{AllByRecursion, list_any}
use Rattle.br_model.specs.Job.{JobRows}
use Rattle.br_model.specs.Choice.{Request, choose}

-- whether the number is one of these
abbrev pub is_one_of : List ℕ → ℕ → Bool
is_one_of ids n = list_any (λ id. id == n) ids

-- a job, with its files if its number is one of these, else without files
abbrev pub files_if : List ℕ → JobRows → JobRows
files_if ids j = record j { files = if is_one_of ids j.row.id then j.files else [] }

-- the jobs, each without files
abbrev pub bare : List JobRows → List JobRows
bare jobs = map (files_if []) jobs

-- The jobs, of which those alone have their files that are needed. The jobs without files decide
-- which they are.
abbrev pub with_needed : (List JobRows → List ℕ) → List JobRows → List JobRows
with_needed needed jobs = map (files_if (needed (bare jobs))) jobs

-- the numbers of these jobs
abbrev pub numbers_in : List JobRows → List ℕ
numbers_in jobs = map (λ (j : JobRows). j.row.id) jobs

-- the numbers of the jobs that are chosen, none if the choice is refused
abbrev pub chosen_numbers : Result (List JobRows) ℕ → List ℕ
chosen_numbers (Ok jobs) = numbers_in jobs
chosen_numbers (Err n) = []

-- the numbers of the jobs whose files a request needs
abbrev pub needed_for : Request → List JobRows → List ℕ
needed_for q jobs = chosen_numbers (choose jobs q)

-- these numbers include those of the chosen jobs, if there is a choice
abbrev pub Covers : List ℕ → Result (List JobRows) ℕ → Type 0
Covers ids (Ok jobs) = AllByRecursion (λ (j : JobRows). is_one_of ids j.row.id ≡ true) jobs
Covers ids (Err n) = ⊤

-- A law about histories. If the jobs that a request chooses have their files, and others may have
-- none, the request chooses the same, or has the same refusal.
abbrev pub CoveredChooseAlike : Type 0
CoveredChooseAlike =
    (ids : List ℕ) (history : List JobRows) (q : Request) → Covers ids (choose history q) → choose (map (files_if ids) history) q ≡ choose history q

-- The same if the jobs that it chooses alone have files.
abbrev pub ChosenChooseAlike : Type 0
ChosenChooseAlike = (history : List JobRows) (q : Request) → choose (with_needed (needed_for q) history) q ≡ choose history q
