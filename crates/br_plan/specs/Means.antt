-- What a plan of a history promises.
use Rattle.std.specs.Prelude.{◌≡◌, ℕ, Bool, if◌then◌else◌, List, map, Some, Result, Ok, Err, Contains}
use Rattle.std.specs.List.{AllByRecursion, AllZip}
use Rattle.std.specs.List.Sorted.{IsPermutation}
use Rattle.br_model.specs.Text.{is_empty}
use Rattle.br_model.specs.Volume.{Volume, Extends}
use Rattle.br_model.specs.Meaning.{Hits, meaning}
use Rattle.br_model.specs.Restored.{files}
use Rattle.br_model.specs.Job.{JobRows, Job, IsJob}
use Rattle.br_model.specs.Choice.{Request, choose}
use Rattle.br_model.specs.View.{Entry, view_of}
use Rattle.br_model.specs.Plan.{Plan, selection, plan_groups, plan_names}
use Rattle.br_model.specs.PlanMeaning.{IsCopy, by_key, rows_of_jobs}
use Rattle.br_model.specs.Stored.{Holds}
use Rattle.br_view.specs.Shown.{shown_pair}
use Rattle.br_plan.specs.Selected.{Pair, selected_by}

-- the plan of selected entries of the chosen jobs
abbrev pub plan_with : List Entry → List JobRows → Plan
plan_with selected jobs = record { groups = plan_groups selected jobs; names = plan_names selected }

-- the plan of selected entries, or 51 if there is none
abbrev pub plan_unless_empty : List Entry → List JobRows → Result Plan ℕ
plan_unless_empty selected jobs = if is_empty selected then Err 51 else Ok (plan_with selected jobs)

-- the plan of the entries, of the view of jobs, that flags select
abbrev pub plan_by : List Pair → List Bool → List JobRows → Result Plan ℕ
plan_by pairs flags jobs = plan_unless_empty (map shown_pair (selected_by pairs flags)) jobs

-- if the request chooses jobs of the history, the entries are their view
abbrev pub IsViewOfChosen : List JobRows → Request → List Entry → Type 0
IsViewOfChosen history q view = (jobs : List JobRows) → choose history q ≡ Ok jobs → view ≡ view_of jobs

-- For all jobs with what they saved whose rows are this history's: if volumes hold the chosen ones,
-- the plan has a meaning over all volumes that extend these. Its files are, in order of key, the
-- copies of the selected entries: one for each entry, and no others.
abbrev pub MeansSelection : List JobRows → Request → List (List ℕ) → Plan → Type 0
MeansSelection history q marks plan =
    (jobs : List Job) (chosen : List JobRows) (volumes later : List Volume)
    → rows_of_jobs jobs ≡ history → AllByRecursion IsJob jobs
    → choose history q ≡ Ok chosen
    → ((j : Job) → Contains jobs j → Contains chosen j.rows → Holds volumes j)
    → Extends later volumes
    → (hits : Hits) × (meaning plan.groups later ≡ Ok hits)
    × AllZip (IsCopy jobs) (by_key (selection (view_of chosen) marks)) (files hits (Some plan.names))
    × IsPermutation (selection (view_of chosen) marks) (by_key (selection (view_of chosen) marks))
