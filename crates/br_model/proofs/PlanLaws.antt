-- A plan's files are the copies of the selected entries.
use Rattle.std.proofs.Common.{◌≡◌, Bool, true, false, cond, List, filter, Result, Ok, Err, Some, ℕ, sym, ap, subst, ◌∙◌}
use Rattle.std.specs.Prelude.{Contains}
use Rattle.std.specs.List.{AllByRecursion, AllZip}
use Rattle.std.specs.List.Sorted.{IsPermutation}
use Rattle.std.specs.FinMap.{entries}
use Rattle.br_model.specs.Answer.{◌>>=◌}
use Rattle.br_model.specs.Order.{is_among}
use Rattle.br_model.specs.Text.{is_empty}
use Rattle.br_model.specs.Name.{key_rank}
use Rattle.br_model.specs.Volume.{Volume, Extends}
use Rattle.br_model.specs.Meaning.{Hits, hits_of, meaning}
use Rattle.br_model.specs.Restored.{files}
use Rattle.br_model.specs.Job.{JobRows, Job, IsJob, is_history}
use Rattle.br_model.specs.Choice.{Request, choose}
use Rattle.br_model.specs.View.{Entry, view_of}
use Rattle.br_model.specs.Plan.{Plan, wanted, selection, planned_entry, plan_groups, plan_names, plan_of}
use Rattle.br_model.specs.PlanMeaning.{IsCopy, by_key, rows_of_jobs}
use Rattle.br_model.specs.Stored.{Holds}
use Rattle.br_model.proofs.EntryFileLaws.{IsHitWhole, files_of_selection, planned_have_all}
use Rattle.br_model.proofs.EntryLaws.{chosen_are_jobs, selected_is_of_job}
use Rattle.br_model.proofs.PlanVolumeLaws.{IsJobLaid, chosen_are_laid, plan_has_meaning}
use Rattle.br_model.proofs.PlanFoundLaws.{plan_found, planned_fragments}
use Rattle.br_model.proofs.ListLaws.{of_each}
use Rattle.br_model.proofs.OrderLaws.{in_order_permutes}
use Rattle.br_model.proofs.PairLaws.{pairs_filter}
use Rattle.br_model.proofs.ViewLaws.{KeysDiffer, view_has_keys}

-- the plan of a selection
abbrev pub plan_from : List JobRows → List (List ℕ) → Plan
plan_from chosen marks = record { groups = plan_groups (selection (view_of chosen) marks) chosen; names = plan_names (selection (view_of chosen) marks) }

-- a plan is that of the selection of the chosen jobs
pub plan_is : (history chosen : List JobRows) (q : Request) (marks : List (List ℕ)) (plan : Plan) → choose history q ≡ Ok chosen → plan_of history q marks ≡ Ok plan → plan_from chosen marks ≡ plan
unfolding plan_of
plan_is history chosen q marks plan is_chosen e =
    made (is_empty (selection (view_of chosen) marks)) (sym (ap (λ (r : Result (List JobRows) ℕ). r >>= go) is_chosen) ∙ e)
  where
    go : List JobRows → Result Plan ℕ
    go jobs = cond (is_empty (selection (view_of jobs) marks)) (Err 51) (Ok (plan_from jobs marks))

    made : (b : Bool) → ◌≡◌ {A = Result Plan ℕ} (cond b (Err 51) (Ok (plan_from chosen marks))) (Ok plan) → plan_from chosen marks ≡ plan
    made true h = absurd cc
    made false h = cc

-- the entries that are selected of a history's view are all there in order of key, each once
pub selected_by_key : (jobs : List JobRows) (marks : List (List ℕ)) → is_history jobs ≡ true → IsPermutation (selection (view_of jobs) marks) (by_key (selection (view_of jobs) marks))
unfolding selection
selected_by_key jobs marks history =
    in_order_permutes (λ (e : Entry). key_rank (planned_entry e).key) (filter (λ (e : Entry). is_among (wanted (view_of jobs) marks) e.path) (view_of jobs))
    (pairs_filter KeysDiffer (λ (e : Entry). is_among (wanted (view_of jobs) marks) e.path) (view_of jobs) (view_has_keys jobs history))

-- If volumes hold the chosen jobs of a history, which are a history themselves, the plan has a
-- meaning over all volumes that extend these, and its files are, in order of key, the selected
-- entries' copies: of each entry one.
pub plan_means_selection_of : (jobs : List Job) (q : Request) (marks : List (List ℕ)) (chosen : List JobRows) (plan : Plan) (volumes later : List Volume)
    → is_history chosen ≡ true → AllByRecursion IsJob jobs
    → choose (rows_of_jobs jobs) q ≡ Ok chosen → plan_of (rows_of_jobs jobs) q marks ≡ Ok plan
    → ((j : Job) → Contains jobs j → Contains chosen j.rows → Holds volumes j)
    → Extends later volumes
    → (hits : Hits) × (meaning plan.groups later ≡ Ok hits)
    × AllZip (IsCopy jobs) (by_key (selection (view_of chosen) marks)) (files hits (Some plan.names))
    × IsPermutation (selection (view_of chosen) marks) (by_key (selection (view_of chosen) marks))
plan_means_selection_of jobs q marks chosen plan volumes later history are_jobs is_chosen is_plan stand extends =
    let selected = selection (view_of chosen) marks in
    let laid : AllByRecursion (IsJobLaid volumes) chosen =
    chosen_are_laid volumes jobs chosen (λ r r_in. of_each (Contains (rows_of_jobs jobs)) chosen r (chosen_are_jobs (rows_of_jobs jobs) chosen q is_chosen) r_in) stand in
    let set : Hits = hits_of (plan_found later selected chosen) in
    let whole : (e : Entry) → Contains selected e → IsHitWhole volumes jobs (entries set) e = λ e inside.
    let s = selected_is_of_job jobs q marks chosen e is_chosen inside in
    let of = s.0 in
    let holds = stand of.job of.among s.1 in
    record {
      of = of;
      is_job = of_each IsJob jobs of.job are_jobs of.among;
      holds = holds;
      fragments_are =
          planned_fragments volumes later selected chosen of.job.rows holds.blocks e extends history laid (record {
            among = s.1;
            laid = holds.laid;
            in_span = holds.in_span;
            selects = inside;
            of_job = sym of.job_is;
            session_is = of.session_is;
          })
          ∙ sym (planned_have_all volumes of.job holds selected e inside (sym of.job_is));
    } in
    subst (λ (p : Plan). (hits : Hits) × (meaning p.groups later ≡ Ok hits) × AllZip (IsCopy jobs) (by_key selected) (files hits (Some p.names)) × IsPermutation selected (by_key selected))
    (plan_is (rows_of_jobs jobs) chosen q marks plan is_chosen is_plan)
    (set, plan_has_meaning volumes later selected chosen extends laid, files_of_selection volumes jobs set selected whole, selected_by_key chosen marks history)
