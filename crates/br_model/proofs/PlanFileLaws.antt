-- The files of a plan, from what its groups hit.
use Rattle.std.proofs.Common.{◌≡◌, ℕ, List, filter, Some, sym, ◌∙◌, ap}
use Rattle.std.specs.Prelude.{Contains}
use Rattle.std.specs.List.{AllByRecursion, AllZip}
use Rattle.std.specs.FinMap.{entries}
use Rattle.br_model.specs.Name.{SessionKey}
use Rattle.br_model.specs.Volume.{Volume}
use Rattle.br_model.specs.Meaning.{Hit, Hits, HasHit}
use Rattle.br_model.specs.Restored.{files}
use Rattle.br_model.specs.Job.{Job, IsJob}
use Rattle.br_model.specs.View.{Entry}
use Rattle.br_model.specs.Plan.{planned_entry, plan_names}
use Rattle.br_model.specs.PlanMeaning.{IsCopy, by_key}
use Rattle.br_model.specs.Stored.{IsSpanLaid, Holds}
use Rattle.br_model.proofs.CutLaws.{has_index}
use Rattle.br_model.proofs.FileLaws.{session_fragments}
use Rattle.br_model.proofs.EntryFileLaws.{IsEntryOf, IsHitWhole, files_of_selection, kept_blocks, kept_zip, planned_have_all}
use Rattle.br_model.proofs.SpanHitLaws.{spans_hits, fragments_of_spans}
use Rattle.br_model.proofs.GroupLaws.{has_part}

-- the hits of an entry's file in the spans that a plan has groups for, the first under the group of this number
abbrev pub entry_hits : (volumes : List Volume) (j : Job) → Holds volumes j → List Entry → ℕ → Entry → List Hit
entry_hits volumes j holds selected group e = spans_hits (planned_entry e).key group (kept_blocks (has_part selected j.rows) j.rows.spans holds.blocks)

-- what a selected entry needs: volumes hold its job, and a set has, as the hits of its file,
-- exactly those in the spans that the plan has groups for
pub record IsPlannedWhole (volumes : List Volume) (jobs : List Job) (set : Hits) (selected : List Entry) (e : Entry) : Type 0 where
  pub of : IsEntryOf jobs e
  pub is_job : IsJob of.job
  pub holds : Holds volumes of.job
  pub group : ℕ
  pub has : AllByRecursion (HasHit set) (entry_hits volumes of.job holds selected group e)
  pub all : (h : Hit) → h.key ≡ (planned_entry e).key → HasHit set h → Contains (entry_hits volumes of.job holds selected group e) h

-- an entry of a selection whose hits are those of the plan is hit whole
pub planned_is_whole : (volumes : List Volume) (jobs : List Job) (set : Hits) (selected : List Entry) (e : Entry) → Contains selected e
    → IsPlannedWhole volumes jobs set selected e → IsHitWhole volumes jobs (entries set) e
planned_is_whole volumes jobs set selected e among w =
    let j = w.of.job in
    let keeps = has_part selected j.rows in
    let blocks = kept_blocks keeps j.rows.spans w.holds.blocks in
    record {
      of = w.of;
      is_job = w.is_job;
      holds = w.holds;
      fragments_are =
          fragments_of_spans volumes (planned_entry e).key w.group (filter keeps j.rows.spans) blocks set
          (kept_zip (IsSpanLaid volumes) keeps j.rows.spans w.holds.blocks w.holds.laid) w.has w.all
          ∙ ap (λ (key : SessionKey). filter (has_index e.index) (session_fragments key blocks)) w.of.session_is
          ∙ sym (planned_have_all volumes j w.holds selected e among (sym w.of.job_is));
    }

-- if a set has the hits of the plan for each selected entry, the files of the plan's names are the
-- copies of the selected entries, in order of key
pub plan_files : (volumes : List Volume) (jobs : List Job) (set : Hits) (selected : List Entry)
    → ((e : Entry) → Contains selected e → IsPlannedWhole volumes jobs set selected e)
    → AllZip (IsCopy jobs) (by_key selected) (files set (Some (plan_names selected)))
plan_files volumes jobs set selected whole =
    files_of_selection volumes jobs set selected (λ e among. planned_is_whole volumes jobs set selected e among (whole e among))
