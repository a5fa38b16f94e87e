-- What a run of the console restores, by the law of plans.
use Rattle.std.proofs.Common.{◌≡◌, ℕ, true, false, List, [], ◌∷◌, Some, Ok, refl}
use Rattle.br_model.specs.Text.{is_empty}
use Rattle.std.specs.List.{AllZip}
use Rattle.br_model.specs.Restored.{Restored, files}
use Rattle.br_model.specs.Job.{JobRows, Job}
use Rattle.br_model.specs.Choice.{Request, choose}
use Rattle.br_model.specs.View.{Entry, view_of}
use Rattle.br_model.specs.Plan.{Plan, selection, plan_of, plan_groups, plan_names}
use Rattle.br_model.specs.PlanMeaning.{IsCopy, PlanMeansSelection, by_key, rows_of_jobs}
use Rattle.br_engine.specs.Outputs.{are_files}
use Rattle.br_engine.specs.Restoring.{restored_files}
use Rattle.br_console.specs.Running.{opening, begun, console_run}
use Rattle.br_console.specs.Selecting.{RunsMeanSelection}

-- copies are files
copies_are_files : (jobs : List Job) (entries : List Entry) (rs : List Restored) → AllZip (IsCopy jobs) entries rs → are_files rs ≡ true
copies_are_files jobs [] [] each = refl
copies_are_files jobs [] (r ∷ rs) each = absurd each
copies_are_files jobs (e ∷ entries) [] each = absurd each
copies_are_files jobs (e ∷ entries) (r ∷ rs) each = rw (each.0.outcome_is, copies_are_files jobs entries rs each.1) refl

-- the plan of a selection that is not empty
module _ (history chosen : List JobRows) (q : Request) (marks : List (List ℕ)) (is_chosen : choose history q ≡ Ok chosen)
    (some : is_empty (selection (view_of chosen) marks) ≡ false) where
  the_plan : Plan
  the_plan = record { groups = plan_groups (selection (view_of chosen) marks) chosen; names = plan_names (selection (view_of chosen) marks) }

  is_planned : plan_of history q marks ≡ Ok the_plan
  unfolding plan_of the_plan
  is_planned = rw (is_chosen, some) refl

-- the law of plans gives that of runs
pub runs_mean_selection_of : PlanMeansSelection → RunsMeanSelection
unfolding console_run begun opening restored_files the_plan
runs_mean_selection_of law jobs q text chosen marks volumes later history are_jobs is_chosen done some stand extends =
    let plan = the_plan (rows_of_jobs jobs) chosen q marks is_chosen some in
    let planned = is_planned (rows_of_jobs jobs) chosen q marks is_chosen some in
    let means = law jobs q marks chosen plan volumes later history are_jobs is_chosen planned stand extends in
    rw (is_chosen, done, planned, means.1)
    (record {
      copies = files means.0 (Some plan.names);
      text_is = refl;
      answer_is = rw (copies_are_files jobs (by_key (selection (view_of chosen) marks)) (files means.0 (Some plan.names)) means.2) refl;
      are_copies = means.2;
      are_all = means.3;
    })
