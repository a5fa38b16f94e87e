-- What steps make of the jobs and the volumes: a commit adds a job, and every other step leaves
-- them.
use Rattle.std.proofs.Common.{◌≡◌, ◌⊎◌, ℕ, true, false, ◌++◌, List, [], ◌∷◌, Ok, refl, sym, subst, inl, inr}
use Rattle.std.proofs.lemmas.Bool.{and_parts, or_from}
use Rattle.std.proofs.lemmas.List.Elements.{Contains-append_cases}
use Rattle.std.specs.Prelude.{Contains, ◌==◌}
use Rattle.std.specs.List.{AllByRecursion, list_all, list_any}
use Rattle.br_model.specs.Volume.{Volume, Extends}
use Rattle.br_model.specs.Name.{same_session}
use Rattle.br_model.specs.Job.{JobRows, Job, IsJob, are_rows, no_pair, clash, pushed, is_history}
use Rattle.br_model.specs.PlanMeaning.{rows_of_jobs}
use Rattle.br_model.specs.Stored.{Holds}
use Rattle.br_model.proofs.AnswerLaws.{ok_is, refuse_ok}
use Rattle.br_model.proofs.ListLaws.{all_append, all_pass, first_or_later, holds_of_all, none_in, none_pass, of_each, to_each}
use Rattle.br_model.proofs.PairLaws.{no_pair_clashes, no_pair_from, pairs_append}
use Rattle.br_model.proofs.SpanLaws.{job_stays}
use Rattle.br_volume.proofs.ExtendLaws.{extends_itself, extends_more}
use Rattle.br_core.specs.Machine.{World, ToCommit, Event, Reply, IsCommitted, Goes, IsStart, IsStep, IsRun, job_of}
use Rattle.br_core.specs.Machine.Event.{Commit, Plan, Claim, Read, Fail, Finish, Take, Deliver, CommitFinds, ReadFinds, FinishFinds}
use Rattle.br_core.specs.Machine.Reply.{Done, Planned, Refused, Delivered}
use Rattle.br_core.specs.Laws.{JobsHold}

-- ---- steps and runs

-- what each step keeps every run keeps
pub run_keeps : (P : World → Type 0) → ((w after : World) (event : Event) (reply : Reply) → IsStep w event reply after → P w → P after)
    → (w after : World) (events : List Event) (replies : List Reply) → IsRun w events replies after → P w → P after
run_keeps P each w after [] [] run p = subst P (sym run) p
run_keeps P each w after [] (r ∷ rs) run p = absurd run
run_keeps P each w after (e ∷ es) [] run p = absurd run
run_keeps P each w after (e ∷ es) (r ∷ rs) run p = run_keeps P each run.0 after es rs run.2 (each w run.0 e r run.1 p)

-- the jobs and the volumes are what they were
pub record IsLeft (before after : World) : Type 0 where
  pub jobs_are : after.jobs ≡ before.jobs
  pub volumes_are : after.volumes ≡ before.volumes
  pub earlier_are : after.earlier ≡ before.earlier

-- a state that is the one before has its jobs and volumes
unchanged : (w after : World) → after ≡ w → IsLeft w after
unchanged w after e = record { jobs_are = λ t. (e t).jobs; volumes_are = λ t. (e t).volumes; earlier_are = λ t. (e t).earlier }

-- a job was committed, to volumes that only grew
pub record IsGrown (before after : World) : Type 0 where
  pub c : ToCommit
  pub found : List Volume
  pub committed : IsCommitted before c found after
  pub extend : Extends after.volumes before.volumes

-- a commit to found volumes
pub grown : (w after : World) (c : ToCommit) (found : List Volume) → Extends found w.volumes → IsCommitted w c found after → IsGrown w after
grown w after c found extends is = record { c = c; found = found; committed = is; extend = extends_more w.volumes found after.volumes is.extend extends }

-- an event of one restore leaves the jobs and the volumes
going_leaves : (w after : World) (number : ℕ) (event : Event) (reply : Reply) → Goes w number event reply after → IsLeft w after
going_leaves w after number event Done h = record { jobs_are = λ t. (h.4 t).jobs; volumes_are = λ t. (h.4 t).volumes; earlier_are = λ t. (h.4 t).earlier }
going_leaves w after number event (Planned n) h = absurd h
going_leaves w after number event (Refused n) h = unchanged w after h.1
going_leaves w after number event (Delivered rs) h = absurd h

-- a step commits a job, or leaves the jobs and the volumes
pub step_commits : (w after : World) (event : Event) (reply : Reply) → IsStep w event reply after → IsLeft w after ⊎ IsGrown w after
step_commits w after (Commit c) Done h = inr (grown w after c w.volumes (extends_itself w.volumes) h)
step_commits w after (Commit c) (Planned n) h = absurd h
step_commits w after (Commit c) (Refused n) h = inl (unchanged w after h.0)
step_commits w after (Commit c) (Delivered rs) h = absurd h
step_commits w after (CommitFinds c found) Done h = inr (grown w after c found h.0 h.1)
step_commits w after (CommitFinds c found) (Planned n) h = absurd h
step_commits w after (CommitFinds c found) (Refused n) h = inl (unchanged w after h.0)
step_commits w after (CommitFinds c found) (Delivered rs) h = absurd h
step_commits w after (Plan q script) Done h = absurd h
step_commits w after (Plan q script) (Planned n) h = inl (record { jobs_are = λ t. (h.4 t).jobs; volumes_are = λ t. (h.4 t).volumes; earlier_are = λ t. (h.4 t).earlier })
step_commits w after (Plan q script) (Refused n) h = inl (unchanged w after h.0)
step_commits w after (Plan q script) (Delivered rs) h = absurd h
step_commits w after (Claim number piece) reply h = inl (going_leaves w after number (Claim number piece) reply h)
step_commits w after (Read number piece commits) reply h = inl (going_leaves w after number (Read number piece commits) reply h)
step_commits w after (ReadFinds number piece volumes) reply h = inl (going_leaves w after number (ReadFinds number piece volumes) reply h)
step_commits w after (Fail number piece) reply h = inl (going_leaves w after number (Fail number piece) reply h)
step_commits w after (Finish number piece) reply h = inl (going_leaves w after number (Finish number piece) reply h)
step_commits w after (FinishFinds number piece volumes) reply h = inl (going_leaves w after number (FinishFinds number piece volumes) reply h)
step_commits w after (Take number place) reply h = inl (going_leaves w after number (Take number place) reply h)
step_commits w after (Deliver number) Done h = absurd h
step_commits w after (Deliver number) (Planned n) h = absurd h
step_commits w after (Deliver number) (Refused n) h = inl (unchanged w after h.1)
step_commits w after (Deliver number) (Delivered rs) h = inl (record { jobs_are = λ t. (h.4 t).jobs; volumes_are = λ t. (h.4 t).volumes; earlier_are = λ t. (h.4 t).earlier })

-- ---- volumes that hold jobs

-- the volumes extend those of an earlier state, and its jobs were there or are held
record IsLater (first w : World) : Type 0 where
  extend : Extends w.volumes first.volumes
  each : (j : Job) → Contains w.jobs j → Contains first.jobs j ⊎ Holds w.volumes j

-- each state is later than itself
later_itself : (w : World) → IsLater w w
later_itself w = record { extend = extends_itself w.volumes; each = λ j among. inl among }

-- if nothing was committed, the later state is still later
left_later : (first w after : World) → IsLeft w after → IsLater first w → IsLater first after
left_later first w after left is = record {
  extend = subst (λ (vs : List Volume). Extends vs first.volumes) (sym left.volumes_are) is.extend;
  each = λ j among.
      elim (is.each j (subst (λ (js : List Job). Contains js j) left.jobs_are among)) [
        | inl old ↦ inl old
        | inr holds ↦ inr (subst (λ (vs : List Volume). Holds vs j) (sym left.volumes_are) holds)
      ];
}

-- after a commit it is
grown_later : (first w after : World) → IsGrown w after → IsLater first w → IsLater first after
grown_later first w after it is = record { extend = extends_more first.volumes w.volumes after.volumes it.extend is.extend; each = each }
  where
    new : Job
    new = job_of it.c it.committed.written.spans

    each : (j : Job) → Contains after.jobs j → Contains first.jobs j ⊎ Holds after.volumes j
    each j among =
        elim (Contains-append_cases w.jobs (new ∷ []) j (subst (λ (js : List Job). Contains js j) it.committed.jobs_are among)) [
          | inl earlier ↦
              elim (is.each j earlier) [
                | inl old ↦ inl old
                | inr holds ↦ inr (job_stays w.volumes after.volumes j it.extend holds)
              ]
          | inr last ↦
              elim (first_or_later new [] j last) [
                | inl same ↦ inr (subst (λ (k : Job). Holds after.volumes k) same it.committed.holds)
                | inr none ↦ absurd (none_in j none)
              ]
        ]

-- after each step it is
step_later : (first w after : World) (event : Event) (reply : Reply) → IsStep w event reply after → IsLater first w → IsLater first after
step_later first w after event reply step is =
    elim (step_commits w after event reply step) [
      | inl left ↦ left_later first w after left is
      | inr it ↦ grown_later first w after it is
    ]

-- volumes only grow, and each job is held for itself
pub jobs_hold_lem : JobsHold
jobs_hold_lem first last events replies run =
    let is = run_keeps (IsLater first) (step_later first) first last events replies run (later_itself first) in
    (is.extend, is.each, λ j holds. job_stays first.volumes last.volumes j is.extend holds)

-- ---- histories

-- what is pushed to a history, with rows that can be in one history, makes a history
pushed_is_history : (history rows : List JobRows) (j : JobRows) → is_history history ≡ true → are_rows j ≡ true → pushed history j ≡ Ok rows → is_history rows ≡ true
unfolding pushed
pushed_is_history history rows j is fit e =
    let ids = refuse_ok (list_any (λ (k : JobRows). k.row.id == j.row.id) history) 40 _ rows e in
    let sessions = refuse_ok (list_any (λ (k : JobRows). same_session k.row.session j.row.session) history) 41 _ rows ids.1 in
    let parts = and_parts (list_all are_rows history) (no_pair clash history) is in
    let each : list_all are_rows (history ++ j ∷ []) ≡ true =
    holds_of_all are_rows (history ++ j ∷ []) (all_append (λ (k : JobRows). are_rows k ≡ true) history (j ∷ []) (all_pass are_rows history parts.0) (fit, tt)) in
    let no_clash : AllByRecursion (λ (k : JobRows). AllByRecursion (λ (i : JobRows). clash k i ≡ false) (j ∷ [])) history =
    to_each (λ (k : JobRows). AllByRecursion (λ (i : JobRows). clash k i ≡ false) (j ∷ [])) history (λ k among. (
      or_from (k.row.id == j.row.id) (same_session k.row.session j.row.session)
          (of_each (λ (i : JobRows). (i.row.id == j.row.id) ≡ false) history k (none_pass (λ (i : JobRows). i.row.id == j.row.id) history ids.0) among)
          (of_each (λ (i : JobRows). same_session i.row.session j.row.session ≡ false) history k (none_pass (λ (i : JobRows). same_session i.row.session j.row.session) history sessions.0) among),
      tt,
    )) in
    let apart : no_pair clash (history ++ j ∷ []) ≡ true =
    no_pair_from clash (history ++ j ∷ []) (pairs_append (λ (i k : JobRows). clash i k ≡ false) history (j ∷ []) (no_pair_clashes clash history parts.1) (tt, tt) no_clash) in
    subst (λ (rs : List JobRows). is_history rs ≡ true) (ok_is (history ++ j ∷ []) rows sessions.1) (rw (each, apart) refl)

-- the jobs of a state are those of a history
pub record IsRecorded (w : World) : Type 0 where
  pub history : is_history (rows_of_jobs w.jobs) ≡ true
  pub are_jobs : AllByRecursion IsJob w.jobs

-- after each step they are
step_records : (w after : World) (event : Event) (reply : Reply) → IsStep w event reply after → IsRecorded w → IsRecorded after
step_records w after event reply step is =
    elim (step_commits w after event reply step) [
      | inl left ↦ record {
        history = subst (λ (js : List Job). is_history (rows_of_jobs js) ≡ true) (sym left.jobs_are) is.history;
        are_jobs = subst (λ (js : List Job). AllByRecursion IsJob js) (sym left.jobs_are) is.are_jobs;
      }
      | inr it ↦ record {
        history = pushed_is_history (rows_of_jobs w.jobs) (rows_of_jobs after.jobs) (job_of it.c it.committed.written.spans).rows is.history it.committed.is_job.fit it.committed.fits;
        are_jobs =
            subst (λ (js : List Job). AllByRecursion IsJob js) (sym it.committed.jobs_are)
            (all_append IsJob w.jobs (job_of it.c it.committed.written.spans ∷ []) is.are_jobs (it.committed.is_job, tt));
      }
    ]

-- from a start on they always are
pub run_records : (start last : World) (events : List Event) (replies : List Reply) → IsStart start → IsRun start events replies last → IsRecorded last
run_records start last events replies is run = run_keeps IsRecorded step_records start last events replies run (record { history = is.history; are_jobs = is.are_jobs })
