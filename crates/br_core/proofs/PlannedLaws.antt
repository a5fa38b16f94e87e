-- In a run from a start each restore has its plan before it.
use Rattle.std.proofs.Common.{◌≡◌, ◌⊎◌, ℕ, ◌<◌, ◌+◌, Bool, true, false, ltb, List, [], ◌∷◌, ◌++◌, length, Option, Some, None, Ok, refl, sym, ap, subst, ◌∙◌, inl, inr, arith}
use Rattle.std.proofs.lemmas.List.{length-append, length-set}
use Rattle.std.proofs.lemmas.Bool.{ltb-false, ltb-true}
use Rattle.std.proofs.lemmas.Option.{slice_get_within}
use Rattle.std.specs.Prelude.{slice_get}
use Rattle.br_model.specs.Answer.{◌>>=◌}
use Rattle.br_model.specs.Job.{JobRows}
use Rattle.br_model.specs.Choice.{Request, choose}
use Rattle.br_model.specs.Console.{Command}
use Rattle.br_model.specs.Plan as model
use Rattle.br_model.specs.Plan.{plan_of}
use Rattle.br_model.specs.PlanMeaning.{rows_of_jobs}
use Rattle.br_model.proofs.AnswerLaws.{bind_ok, ok_is}
use Rattle.br_core.specs.Machine.{World, Restore, Event, Reply, Goes, IsStart, IsStep, IsRun, marks_of, plan_for, planned, restore_at}
use Rattle.br_core.specs.Machine.Event.{Commit, Plan, Claim, Read, Fail, Finish, Take, Deliver, CommitFinds, ReadFinds, FinishFinds}
use Rattle.br_core.specs.Machine.Reply.{Done, Planned, Refused, Delivered}
use Rattle.br_core.specs.Laws.{WasPlanned}

-- ---- plans

-- the jobs that are chosen for a plan, and its marks
record IsChosenFor (history : List JobRows) (q : Request) (script : List Command) (marks : List (List ℕ)) : Type 0 where
  chosen : List JobRows
  chosen_are : choose history q ≡ Ok chosen
  marks_are : marks ≡ marks_of chosen script

-- a plan is for chosen jobs
chosen_for : (history : List JobRows) (q : Request) (script : List Command) (marks : List (List ℕ)) (plan : model.Plan) → plan_for history q script ≡ Ok (marks, plan)
    → IsChosenFor history q script marks
unfolding plan_for
chosen_for history q script marks plan e =
    let a = bind_ok (choose history q) (λ (jobs : List JobRows). plan_of history q (marks_of jobs script) >>= λ (p : model.Plan). Ok (marks_of jobs script, p)) (marks, plan) e in
    let b = bind_ok (plan_of history q (marks_of a.0 script)) (λ (p : model.Plan). Ok (marks_of a.0 script, p)) (marks, plan) a.2 in
    let parts : ◌≡◌ {A = List (List ℕ) × model.Plan} (marks_of a.0 script, b.0) (marks, plan) = ok_is (marks_of a.0 script, b.0) (marks, plan) b.2 in
    record { chosen = a.0; chosen_are = a.1; marks_are = ap (λ (x : List (List ℕ) × model.Plan). x.0) (sym parts) }

-- the step planned the restore that gets the next number
record IsPlanning (w : World) (event : Event) (reply : Reply) (next : World) : Type 0 where
  q : Request
  script : List Command
  marks : List (List ℕ)
  plan : model.Plan
  event_is : event ≡ Plan q script
  reply_is : reply ≡ Planned (length w.restores)
  plan_is : plan_for (rows_of_jobs w.jobs) q script ≡ Ok (marks, plan)
  next_is : next ≡ record w { restores = w.restores ++ Some (planned w q marks plan) ∷ [] }

-- ---- numbers that are given

-- no number more was given
abbrev Stays : World → World → Type 0
Stays w next = length next.restores ≡ length w.restores

-- an event of one restore gives no number
going_stays : (w next : World) (number : ℕ) (event : Event) (reply : Reply) → Goes w number event reply next → Stays w next
going_stays w next number event Done h = ap (λ (s : World). length s.restores) h.4 ∙ length-set w.restores number (Some h.1)
going_stays w next number event (Planned n) h = absurd h
going_stays w next number event (Refused n) h = ap (λ (s : World). length s.restores) h.1
going_stays w next number event (Delivered rs) h = absurd h

-- a step plans a restore, or gives no number
step_plans : (w next : World) (event : Event) (reply : Reply) → IsStep w event reply next → Stays w next ⊎ IsPlanning w event reply next
step_plans w next (Commit c) Done h = inl (ap (λ (rs : List (Option Restore)). length rs) h.restores_are)
step_plans w next (Commit c) (Planned n) h = absurd h
step_plans w next (Commit c) (Refused n) h = inl (ap (λ (s : World). length s.restores) h.0)
step_plans w next (Commit c) (Delivered rs) h = absurd h
step_plans w next (CommitFinds c found) Done h = inl (ap (λ (rs : List (Option Restore)). length rs) h.1.restores_are)
step_plans w next (CommitFinds c found) (Planned n) h = absurd h
step_plans w next (CommitFinds c found) (Refused n) h = inl (ap (λ (s : World). length s.restores) h.0)
step_plans w next (CommitFinds c found) (Delivered rs) h = absurd h
step_plans w next (Plan q script) Done h = absurd h
step_plans w next (Plan q script) (Planned n) h =
    inr (record { q = q; script = script; marks = h.0; plan = h.1; event_is = refl; reply_is = ap Planned h.3; plan_is = h.2; next_is = h.4 })
step_plans w next (Plan q script) (Refused n) h = inl (ap (λ (s : World). length s.restores) h.0)
step_plans w next (Plan q script) (Delivered rs) h = absurd h
step_plans w next (Claim number piece) reply h = inl (going_stays w next number (Claim number piece) reply h)
step_plans w next (Read number piece commits) reply h = inl (going_stays w next number (Read number piece commits) reply h)
step_plans w next (ReadFinds number piece volumes) reply h = inl (going_stays w next number (ReadFinds number piece volumes) reply h)
step_plans w next (Fail number piece) reply h = inl (going_stays w next number (Fail number piece) reply h)
step_plans w next (Finish number piece) reply h = inl (going_stays w next number (Finish number piece) reply h)
step_plans w next (FinishFinds number piece volumes) reply h = inl (going_stays w next number (FinishFinds number piece volumes) reply h)
step_plans w next (Take number place) reply h = inl (going_stays w next number (Take number place) reply h)
step_plans w next (Deliver number) Done h = absurd h
step_plans w next (Deliver number) (Planned n) h = absurd h
step_plans w next (Deliver number) (Refused n) h = inl (ap (λ (s : World). length s.restores) h.1)
step_plans w next (Deliver number) (Delivered rs) h = inl (ap (λ (s : World). length s.restores) h.4 ∙ length-set w.restores number None)

-- ---- runs

-- a run that begins with the plan
planned_first : (w next last : World) (event : Event) (reply : Reply) (events : List Event) (replies : List Reply) (number : ℕ) → IsPlanning w event reply next → number ≡ length w.restores
    → IsRun next events replies last → WasPlanned w last (event ∷ events) (reply ∷ replies) number
planned_first w next last event reply events replies number is given run =
    let of = chosen_for (rows_of_jobs w.jobs) is.q is.script is.marks is.plan is.plan_is in
    record {
      request = is.q;
      script = is.script;
      moment = w;
      begun = next;
      chosen = of.chosen;
      plan = is.plan;
      before = [];
      between = events;
      replies_before = [];
      replies_between = replies;
      events_are = ap (λ (e : Event). e ∷ events) is.event_is;
      replies_are = ap (λ (r : Reply). r ∷ replies) (is.reply_is ∙ ap Planned (sym given));
      run_before = refl;
      plan_step = (is.marks, is.plan, is.plan_is, given, is.next_is);
      run_between = run;
      chosen_are = of.chosen_are;
      plan_is = is.plan_is ∙ ap (λ (marks : List (List ℕ)). Ok (marks, is.plan)) of.marks_are;
    }

-- a run with the plan after its first step
planned_later : (w next last : World) (event : Event) (reply : Reply) (events : List Event) (replies : List Reply) (number : ℕ) → IsStep w event reply next
    → WasPlanned next last events replies number → WasPlanned w last (event ∷ events) (reply ∷ replies) number
planned_later w next last event reply events replies number step p = record {
  request = p.request;
  script = p.script;
  moment = p.moment;
  begun = p.begun;
  chosen = p.chosen;
  plan = p.plan;
  before = event ∷ p.before;
  between = p.between;
  replies_before = reply ∷ p.replies_before;
  replies_between = p.replies_between;
  events_are = ap (λ (es : List Event). event ∷ es) p.events_are;
  replies_are = ap (λ (rs : List Reply). reply ∷ rs) p.replies_are;
  run_before = (next, step, p.run_before);
  plan_step = p.plan_step;
  run_between = p.run_between;
  chosen_are = p.chosen_are;
  plan_is = p.plan_is;
}

-- a number below one more is below, or is the last
below_or_last : (number n : ℕ) → number < n + 1 → (number < n) ⊎ (number ≡ n)
below_or_last number n lt = go (ltb number n) refl
  where
    go : (b : Bool) → ltb number n ≡ b → (number < n) ⊎ (number ≡ n)
    go true is = inl (ltb-true number n is)
    go false is = inr (omega (arith, lt, ltb-false number n is))

-- a number that is given after a run was given before it, or was planned in it
given_or_planned : (w last : World) (events : List Event) (replies : List Reply) (number : ℕ) → IsRun w events replies last → number < length last.restores
    → (number < length w.restores) ⊎ WasPlanned w last events replies number
given_or_planned w last [] [] number run given = inl (subst (λ (s : World). number < length s.restores) run given)
given_or_planned w last [] (r ∷ rs) number run given = absurd run
given_or_planned w last (e ∷ es) [] number run given = absurd run
given_or_planned w last (e ∷ es) (r ∷ rs) number run given =
    elim (given_or_planned run.0 last es rs number run.2 given) [
      | inl early ↦
          elim (step_plans w run.0 e r run.1) [
            | inl stays ↦ inl (omega (arith, early, stays))
            | inr planning ↦ here planning (below_or_last number (length w.restores) (more planning early))
          ]
      | inr later ↦ inr (planned_later w run.0 last e r es rs number run.1 later)
    ]
  where
    more : IsPlanning w e r run.0 → number < length run.0.restores → number < length w.restores + 1
    more is early =
        omega (arith, early, ap (λ (s : World). length s.restores) is.next_is, length-append w.restores (Some (planned w is.q is.marks is.plan) ∷ []))

    here : IsPlanning w e r run.0 → (number < length w.restores) ⊎ (number ≡ length w.restores)
        → (number < length w.restores) ⊎ WasPlanned w last (e ∷ es) (r ∷ rs) number
    here is (inl below) = inl below
    here is (inr same) = inr (planned_first w run.0 last e r es rs number is same run.2)

-- the number of a restore that is not over is given
is_given : (w : World) (number : ℕ) (r : Restore) → restore_at w number ≡ Some r → number < length w.restores
is_given w number r at = go (slice_get w.restores number) refl
  where
    go : (o : Option (Option Restore)) → slice_get w.restores number ≡ o → number < length w.restores
    go None is = absurd cc
    go (Some it) is = slice_get_within w.restores number it is

-- each restore of a run from a start was planned in it
pub was_planned : (first last : World) (events : List Event) (replies : List Reply) (number : ℕ) (r : Restore) → IsStart first → IsRun first events replies last
    → restore_at last number ≡ Some r → WasPlanned first last events replies number
was_planned first last events replies number r start run at =
    elim (given_or_planned first last events replies number run (is_given last number r at)) [
      | inl early ↦ absurd (omega (arith, early, ap (λ (rs : List (Option Restore)). length rs) start.none))
      | inr planned ↦ planned
    ]
