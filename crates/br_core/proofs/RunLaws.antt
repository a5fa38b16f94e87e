-- A restore in a run: under way from its plan on, until it is over. Thus what it delivers is what
-- was selected.
use Rattle.std.proofs.Common.{◌≡◌, ◌⊎◌, ℕ, zero, suc, ◌<◌, ◌≤◌, List, [], ◌∷◌, ◌++◌, length, Option, Some, None, Ok, refl, sym, ap, subst, ◌∙◌, inl, inr, arith}
use Rattle.std.proofs.lemmas.List.{length-append, length-set}
use Rattle.std.proofs.lemmas.Option.{same_Some, slice_get_within}
use Rattle.std.specs.Prelude.{Contains, slice_get}
use Rattle.std.specs.List.{AllByRecursion, AllZip}
use Rattle.br_model.specs.Answer.{◌>>=◌}
use Rattle.br_model.specs.Volume.{Volume, Extends}
use Rattle.br_model.specs.Bootstrap.{Group}
use Rattle.br_model.specs.Meaning.{Hits, hits_of, meaning}
use Rattle.br_model.specs.Restored.{Restored, files}
use Rattle.br_model.specs.Job.{JobRows, Job}
use Rattle.br_model.specs.Choice.{Request, choose}
use Rattle.br_model.specs.View.{Entry}
use Rattle.br_model.specs.Console.{Command}
use Rattle.br_model.specs.Stored.{Holds}
use Rattle.br_model.specs.Plan as model
use Rattle.br_model.specs.Plan.{plan_groups, plan_of}
use Rattle.br_model.specs.PlanMeaning.{IsCopy, by_key, rows_of_jobs}
use Rattle.br_model.proofs.AnswerLaws.{bind_ok, ok_is}
use Rattle.br_model.proofs.ListLaws.{of_each}
use Rattle.br_model.proofs.EntryLaws.{chosen_are_jobs}
use Rattle.br_model.proofs.PlanLaws.{plan_is}
use Rattle.br_model.proofs.PlanVolumeLaws.{IsJobLaid, chosen_are_laid}
use Rattle.br_model.proofs.ChosenPlanLaws.{plan_means_selection_lem}
use Rattle.br_volume.proofs.ExtendLaws.{extends_itself, extends_more}
use Rattle.br_core.specs.Machine.{World, Restore, Event, Reply, Goes, IsStart, IsStep, becomes, marks_of, plan_for, planned, restore_at, stages_of}
use Rattle.br_core.specs.Machine.Event.{Commit, Plan, Claim, Read, Fail, Finish, Take, Deliver, CommitFinds, ReadFinds, FinishFinds}
use Rattle.br_core.specs.Machine.Reply.{Done, Planned, Refused, Delivered}
use Rattle.br_core.specs.Laws.{WasPlanned, OldOnesHold, HasHitsOf, IsRestored, HitsOfARun, Headline, selected_by}
use Rattle.br_core.proofs.CommitLaws.{IsGrown, grown, jobs_hold_lem, run_keeps, run_records}
use Rattle.br_core.proofs.PlaceLaws.{get_before, get_last, same_or_not, set_other, set_same}
use Rattle.br_core.proofs.PlanPieceLaws.{IsReadable, plan_hits, plan_is_readable, plan_means_alike}
use Rattle.br_core.proofs.PlannedLaws.{was_planned}
use Rattle.br_core.proofs.GoingLaws.{AreGrown, IsGoing, going_begins, going_moves, whole_is_set}

-- ---- the restores of a state

-- what is under a number
abbrev at_number : World → List (Option Restore) → ℕ → Option Restore
at_number w restores number = restore_at (record w { restores = restores }) number

-- of a list of restores the same is said if the places are the same
places_alike : (w : World) (some other : List (Option Restore)) (m n : ℕ) → slice_get some m ≡ slice_get other n → at_number w some m ≡ at_number w other n
places_alike w some other m n e = rw e refl

-- a number has what is at its place
restore_is : (w : World) (restores : List (Option Restore)) (number : ℕ) (it : Option Restore) → slice_get restores number ≡ Some it → at_number w restores number ≡ it
restore_is w restores number it e = rw e refl

-- The number is given, the volumes only grew, and the restore under the number, if it is not over,
-- is under way.
pub record IsKept (volumes : List Volume) (commits : ℕ) (plan : model.Plan) (hits : Hits) (number : ℕ) (w : World) : Type 0 where
  pub given : number < length w.restores
  pub grown : AreGrown volumes commits (stages_of w)
  pub going : (r : Restore) → restore_at w number ≡ Some r → IsGoing volumes commits plan hits r

-- where one restore becomes another, that is under way if it has the number
kept_becomes : (volumes : List Volume) (commits : ℕ) (plan : model.Plan) (hits : Hits) (number n : ℕ) (w : World) (it : Option Restore) → IsKept volumes commits plan hits number w
    → (number ≡ n → (r : Restore) → it ≡ Some r → IsGoing volumes commits plan hits r) → IsKept volumes commits plan hits number (becomes w n it)
kept_becomes volumes commits plan hits number n w it is new = record { given = omega (arith, is.given, length-set w.restores n it); grown = is.grown; going = λ r e. go r e (same_or_not number n) }
  where
    go : (r : Restore) → restore_at (becomes w n it) number ≡ Some r → (number ≡ n) ⊎ (number ≡ n → ⊥) → IsGoing volumes commits plan hits r
    go r e (inl same) =
        let within : n < length w.restores = omega (arith, is.given, same) in
        let here : restore_at (becomes w n it) n ≡ it = restore_is w (becomes w n it).restores n it (set_same w.restores n it within) in
        new same r (sym here ∙ ap (restore_at (becomes w n it)) (sym same) ∙ e)
    go r e (inr apart) = is.going r (sym (places_alike w (becomes w n it).restores w.restores number number (set_other w.restores n number it apart)) ∙ e)

-- what an element of a list with one more element is
get_of_more : {X : Type 0} (xs : List X) (x y : X) (n : ℕ) → slice_get (xs ++ x ∷ []) n ≡ Some y → (slice_get xs n ≡ Some y) ⊎ (x ≡ y)
get_of_more [] x y zero e = inr (same_Some x y e)
get_of_more [] x y (suc n) e = absurd cc
get_of_more (z ∷ zs) x y zero e = inl e
get_of_more (z ∷ zs) x y (suc n) e = get_of_more zs x y n e

-- after a commit the volumes are still grown
still_grown : (volumes : List Volume) (commits : ℕ) (w after : World) → IsGrown w after → AreGrown volumes commits (stages_of w) → AreGrown volumes commits (stages_of after)
still_grown volumes commits w after it is =
    subst (λ (earlier : List (List Volume)). AreGrown volumes commits (earlier ++ after.volumes ∷ [])) (sym it.committed.earlier_are) (record {
      since = omega (arith, is.since, length-append (stages_of w) (after.volumes ∷ []));
      extend = λ n later since at.
          elim (get_of_more (stages_of w) after.volumes later n at) [
            | inl was ↦ is.extend n later since was
            | inr last ↦ subst (λ (vs : List Volume). Extends vs volumes) last (extends_more volumes w.volumes after.volumes it.extend now)
          ];
    })
  where
    now : Extends w.volumes volumes
    now =
        is.extend (length w.earlier) w.volumes (omega (arith, is.since, length-append w.earlier (w.volumes ∷ []))) (get_last w.earlier w.volumes)

-- a commit
kept_grown : (volumes : List Volume) (commits : ℕ) (plan : model.Plan) (hits : Hits) (number : ℕ) (w after : World) → IsGrown w after
    → IsKept volumes commits plan hits number w → IsKept volumes commits plan hits number after
kept_grown volumes commits plan hits number w after it is = record {
  given = subst (λ (rs : List (Option Restore)). number < length rs) (sym it.committed.restores_are) is.given;
  grown = still_grown volumes commits w after it is.grown;
  going = λ r at. is.going r (ap (λ (rs : List (Option Restore)). at_number w rs number) (sym it.committed.restores_are) ∙ at);
}

-- an event of one restore
kept_going : (volumes : List Volume) (commits : ℕ) (plan : model.Plan) (hits : Hits) (number n : ℕ) (w after : World) (event : Event) (reply : Reply) → IsReadable volumes plan.groups hits
    → Goes w n event reply after → IsKept volumes commits plan hits number w → IsKept volumes commits plan hits number after
kept_going volumes commits plan hits number n w after event Done readable h is =
    subst (IsKept volumes commits plan hits number) (sym h.4)
    (kept_becomes volumes commits plan hits number n w (Some h.1) is (λ same r e.
    subst (IsGoing volumes commits plan hits) (same_Some h.1 r e) (going_moves volumes commits plan hits w event h.0 h.1 readable is.grown (is.going h.0 (ap (restore_at w) same ∙ h.2)) h.3)))
kept_going volumes commits plan hits number n w after event (Planned k) readable h is = absurd h
kept_going volumes commits plan hits number n w after event (Refused k) readable h is = subst (IsKept volumes commits plan hits number) (sym h.1) is
kept_going volumes commits plan hits number n w after event (Delivered rs) readable h is = absurd h

-- one more restore
kept_with_more : (volumes : List Volume) (commits : ℕ) (plan : model.Plan) (hits : Hits) (number : ℕ) (w : World) (it : Option Restore) → IsKept volumes commits plan hits number w
    → IsKept volumes commits plan hits number (record w { restores = w.restores ++ it ∷ [] })
kept_with_more volumes commits plan hits number w it is = record {
  given = omega (arith, is.given, length-append w.restores (it ∷ []));
  grown = is.grown;
  going = λ r e. is.going r (sym (places_alike w (w.restores ++ it ∷ []) w.restores number number (get_before w.restores it number is.given)) ∙ e);
}

-- each step
kept_step : (volumes : List Volume) (commits : ℕ) (plan : model.Plan) (hits : Hits) (number : ℕ) → IsReadable volumes plan.groups hits
    → (w after : World) (event : Event) (reply : Reply) → IsStep w event reply after → IsKept volumes commits plan hits number w → IsKept volumes commits plan hits number after
kept_step volumes commits plan hits number readable w after (Commit c) Done h is = kept_grown volumes commits plan hits number w after (grown w after c w.volumes (extends_itself w.volumes) h) is
kept_step volumes commits plan hits number readable w after (Commit c) (Planned k) h is = absurd h
kept_step volumes commits plan hits number readable w after (Commit c) (Refused k) h is = subst (IsKept volumes commits plan hits number) (sym h.0) is
kept_step volumes commits plan hits number readable w after (Commit c) (Delivered rs) h is = absurd h
kept_step volumes commits plan hits number readable w after (CommitFinds c found) Done h is = kept_grown volumes commits plan hits number w after (grown w after c found h.0 h.1) is
kept_step volumes commits plan hits number readable w after (CommitFinds c found) (Planned k) h is = absurd h
kept_step volumes commits plan hits number readable w after (CommitFinds c found) (Refused k) h is = subst (IsKept volumes commits plan hits number) (sym h.0) is
kept_step volumes commits plan hits number readable w after (CommitFinds c found) (Delivered rs) h is = absurd h
kept_step volumes commits plan hits number readable w after (Plan q script) Done h is = absurd h
kept_step volumes commits plan hits number readable w after (Plan q script) (Planned k) h is =
    subst (IsKept volumes commits plan hits number) (sym h.4) (kept_with_more volumes commits plan hits number w (Some (planned w q h.0 h.1)) is)
kept_step volumes commits plan hits number readable w after (Plan q script) (Refused k) h is = subst (IsKept volumes commits plan hits number) (sym h.0) is
kept_step volumes commits plan hits number readable w after (Plan q script) (Delivered rs) h is = absurd h
kept_step volumes commits plan hits number readable w after (Claim n piece) reply h is = kept_going volumes commits plan hits number n w after (Claim n piece) reply readable h is
kept_step volumes commits plan hits number readable w after (Read n piece c) reply h is = kept_going volumes commits plan hits number n w after (Read n piece c) reply readable h is
kept_step volumes commits plan hits number readable w after (ReadFinds n piece found) reply h is = kept_going volumes commits plan hits number n w after (ReadFinds n piece found) reply readable h is
kept_step volumes commits plan hits number readable w after (FinishFinds n piece found) reply h is = kept_going volumes commits plan hits number n w after (FinishFinds n piece found) reply readable h is
kept_step volumes commits plan hits number readable w after (Fail n piece) reply h is = kept_going volumes commits plan hits number n w after (Fail n piece) reply readable h is
kept_step volumes commits plan hits number readable w after (Finish n piece) reply h is = kept_going volumes commits plan hits number n w after (Finish n piece) reply readable h is
kept_step volumes commits plan hits number readable w after (Take n place) reply h is = kept_going volumes commits plan hits number n w after (Take n place) reply readable h is
kept_step volumes commits plan hits number readable w after (Deliver n) Done h is = absurd h
kept_step volumes commits plan hits number readable w after (Deliver n) (Planned k) h is = absurd h
kept_step volumes commits plan hits number readable w after (Deliver n) (Refused k) h is = subst (IsKept volumes commits plan hits number) (sym h.1) is
kept_step volumes commits plan hits number readable w after (Deliver n) (Delivered rs) h is =
    subst (IsKept volumes commits plan hits number) (sym h.4) (kept_becomes volumes commits plan hits number n w None is (λ same r e. absurd cc))

-- ---- a restore from its plan on

-- the plan of what a script marks
planned_is : (history chosen : List JobRows) (q : Request) (script : List Command) (plan : model.Plan) → choose history q ≡ Ok chosen
    → plan_for history q script ≡ Ok (marks_of chosen script, plan) → plan_of history q (marks_of chosen script) ≡ Ok plan
unfolding plan_for
planned_is history chosen q script plan is_chosen e =
    let a = bind_ok (choose history q) (λ (jobs : List JobRows). plan_of history q (marks_of jobs script) >>= λ (p : model.Plan). Ok (marks_of jobs script, p)) (marks_of chosen script, plan) e in
    let same : a.0 ≡ chosen = ok_is a.0 chosen (sym a.1 ∙ is_chosen) in
    let b = bind_ok (plan_of history q (marks_of a.0 script)) (λ (p : model.Plan). Ok (marks_of a.0 script, p)) (marks_of chosen script, plan) a.2 in
    let parts : ◌≡◌ {A = List (List ℕ) × model.Plan} (marks_of a.0 script, b.0) (marks_of chosen script, plan) = ok_is (marks_of a.0 script, b.0) (marks_of chosen script, plan) b.2 in
    ap (λ (jobs : List JobRows). plan_of history q (marks_of jobs script)) (sym same) ∙ b.1 ∙ ap (λ (x : List (List ℕ) × model.Plan). Ok x.1) parts

-- The chosen jobs are laid on the volumes of the moment, the plan is readable over these, and the
-- restore is under way in the last state, if it is not over.
pub record IsFollowed (number : ℕ) (moment last : World) (chosen : List JobRows) (script : List Command) (plan : model.Plan) : Type 0 where
  pub laid : AllByRecursion (IsJobLaid moment.volumes) chosen
  pub groups_are : plan_groups (selected_by chosen script) chosen ≡ plan.groups
  pub readable : IsReadable moment.volumes plan.groups (hits_of (plan_hits moment.volumes (selected_by chosen script) chosen))
  pub kept : IsKept moment.volumes (length moment.earlier) plan (hits_of (plan_hits moment.volumes (selected_by chosen script) chosen)) number last

-- the volumes of a moment are the last of its stages
grown_itself : (w : World) → AreGrown w.volumes (length w.earlier) (stages_of w)
grown_itself w = record { since = omega (arith, length-append w.earlier (w.volumes ∷ [])); extend = extend }
  where
    extend : (n : ℕ) (later : List Volume) → length w.earlier ≤ n → slice_get (stages_of w) n ≡ Some later → Extends later w.volumes
    extend n later since at =
        elim (get_of_more w.earlier w.volumes later n at) [
          | inl was ↦ absurd (omega (arith, since, slice_get_within w.earlier n later was))
          | inr now ↦ subst (λ (vs : List Volume). Extends vs w.volumes) now (extends_itself w.volumes)
        ]

-- the volumes of the moment hold the chosen jobs, since they hold what was committed before it
hold_then : (first last : World) (events : List Event) (replies : List Reply) (number : ℕ) (p : WasPlanned first last events replies number) → OldOnesHold first p.moment p.chosen
    → (j : Job) → Contains p.moment.jobs j → Contains p.chosen j.rows → Holds p.moment.volumes j
hold_then first last events replies number p old j among is_chosen =
    elim ((jobs_hold_lem first p.moment p.before p.replies_before p.run_before).1 j among) [
      | inl was_there ↦ old j was_there is_chosen
      | inr holds ↦ holds
    ]

-- from its plan on a restore is so followed
pub followed : (first last : World) (events : List Event) (replies : List Reply) (number : ℕ) (p : WasPlanned first last events replies number) → OldOnesHold first p.moment p.chosen
    → IsFollowed number p.moment last p.chosen p.script p.plan
followed first last events replies number p old = record { laid = laid; groups_are = groups_are; readable = readable; kept = kept }
  where
    moment : World
    moment = p.moment

    history : List JobRows
    history = rows_of_jobs p.moment.jobs

    marked : List (List ℕ)
    marked = marks_of p.chosen p.script

    selected : List Entry
    selected = selected_by p.chosen p.script

    hits : Hits
    hits = hits_of (plan_hits p.moment.volumes (selected_by p.chosen p.script) p.chosen)

    laid : AllByRecursion (IsJobLaid p.moment.volumes) p.chosen
    laid =
        chosen_are_laid p.moment.volumes p.moment.jobs p.chosen (λ j among. of_each (Contains history) p.chosen j (chosen_are_jobs history p.chosen p.request p.chosen_are) among)
        (hold_then first last events replies number p old)

    groups_are : plan_groups (selected_by p.chosen p.script) p.chosen ≡ p.plan.groups
    groups_are =
        ap (λ (it : model.Plan). it.groups)
        (plan_is history p.chosen p.request marked p.plan p.chosen_are (planned_is history p.chosen p.request p.script p.plan p.chosen_are p.plan_is))

    readable : IsReadable p.moment.volumes p.plan.groups hits
    readable = subst (λ (groups : List Group). IsReadable p.moment.volumes groups hits) groups_are (plan_is_readable p.moment.volumes selected p.chosen laid)

    Kept : World → Type 0
    Kept = IsKept p.moment.volumes (length p.moment.earlier) p.plan hits number

    begins : Kept p.begun
    begins =
        let step = p.plan_step in
        let more : World = record moment { restores = moment.restores ++ Some (planned moment p.request step.0 step.1) ∷ [] } in
        let parts : ◌≡◌ {A = List (List ℕ) × model.Plan} (step.0, step.1) (marked, p.plan) = ok_is (step.0, step.1) (marked, p.plan) (sym step.2 ∙ p.plan_is) in
        let here : restore_at more (length moment.restores) ≡ Some (planned moment p.request step.0 step.1) =
        restore_is moment more.restores (length moment.restores) (Some (planned moment p.request step.0 step.1)) (get_last moment.restores (Some (planned moment p.request step.0 step.1))) in
        subst Kept (sym step.4) (record {
          given = omega (arith, step.3, length-append moment.restores (Some (planned moment p.request step.0 step.1) ∷ []));
          grown = grown_itself moment;
          going = λ r e.
              subst (IsGoing moment.volumes (length moment.earlier) p.plan hits) (same_Some (planned moment p.request step.0 step.1) r (sym here ∙ ap (restore_at more) (sym step.3) ∙ e))
              (subst (λ (it : model.Plan). IsGoing moment.volumes (length moment.earlier) it hits (planned moment p.request step.0 step.1)) (ap (λ (x : List (List ℕ) × model.Plan). x.1) parts)
              (going_begins moment p.request step.0 step.1 hits));
        })

    kept : Kept last
    kept = run_keeps Kept (kept_step p.moment.volumes (length p.moment.earlier) p.plan hits number readable) p.begun last p.between p.replies_between p.run_between begins

-- the hits of a restore are those that its bootstrap means
has_hits : (first last : World) (events : List Event) (replies : List Reply) (number : ℕ) (r : Restore) → restore_at last number ≡ Some r
    → (p : WasPlanned first last events replies number) → OldOnesHold first p.moment p.chosen → HasHitsOf p.plan p.moment.volumes r
has_hits first last events replies number r at p old =
    let f = followed first last events replies number p old in
    let going = f.kept.going r at in
    let set = hits_of (plan_hits p.moment.volumes (selected_by p.chosen p.script) p.chosen) in
    record {
      set = set;
      means = f.readable.means;
      on_their_way = going.on_their_way;
      taken_are = going.taken_are;
      whole = λ whole. whole_is_set p.moment.volumes (length p.moment.earlier) p.plan set r f.readable going whole;
    }

pub hits_of_a_run_lem : HitsOfARun
hits_of_a_run_lem first last events replies number r start run at =
    (was_planned first last events replies number r start run at, has_hits first last events replies number r at)

-- a restore delivers what was selected when it was planned
delivers : (first last after : World) (events : List Event) (replies : List Reply) (number : ℕ) (delivered : List Restored) → IsStart first
    → IsStep last (Deliver number) (Delivered delivered) after → (p : WasPlanned first last events replies number) → OldOnesHold first p.moment p.chosen
    → IsRestored p.moment p.chosen p.script p.plan delivered
delivers first last after events replies number delivered start step p old =
    let f = followed first last events replies number p old in
    let history = run_records first p.moment p.before p.replies_before start p.run_before in
    let selected = selected_by p.chosen p.script in
    let set = hits_of (plan_hits p.moment.volumes selected p.chosen) in
    let going = f.kept.going step.0 step.1 in
    let taken : step.0.taken ≡ set = whole_is_set p.moment.volumes (length p.moment.earlier) p.plan set step.0 f.readable going step.2 in
    let is_files : files set (Some p.plan.names) ≡ delivered =
    sym (step.3 ∙ ap (λ (hs : Hits). files hs (Some step.0.plan.names)) taken ∙ ap (λ (it : model.Plan). files set (Some it.names)) going.plan_is) in
    let copies = plan_means_selection_lem p.moment.jobs p.request (marks_of p.chosen p.script) p.chosen p.plan p.moment.volumes p.moment.volumes history.history history.are_jobs p.chosen_are
    (planned_is (rows_of_jobs p.moment.jobs) p.chosen p.request p.script p.plan p.chosen_are p.plan_is) (hold_then first last events replies number p old) (extends_itself p.moment.volumes) in
    let same : copies.0 ≡ set = ok_is copies.0 set (sym copies.1 ∙ f.readable.means) in
    record {
      copies = subst (λ (rs : List Restored). AllZip (IsCopy p.moment.jobs) (by_key (selected_by p.chosen p.script)) rs) (ap (λ (hs : Hits). files hs (Some p.plan.names)) same ∙ is_files) copies.2;
      each_once = copies.3;
      means = λ later extends. (
        set,
        ap (λ (groups : List Group). meaning groups later) (sym f.groups_are) ∙ plan_means_alike p.moment.volumes later (selected_by p.chosen p.script) p.chosen extends f.laid,
        is_files,
      );
    }

pub headline_lem : Headline
headline_lem first last after events replies number delivered start run step =
    (was_planned first last events replies number step.0 start run step.1, delivers first last after events replies number delivered start step)
