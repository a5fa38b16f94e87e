-- What a script makes of a console, and the plan for what it marks.
use Rattle.std.proofs.Common.{◌≡◌, ℕ, ◌+◌, ◌<◌, List, [], ◌∷◌, ◌++◌, length, take, get_or, map, Option, Some, None, Result, Ok, Err, refl, sym, ap, ◌∙◌}
use Rattle.std.proofs.lemmas.List.{take_more, map-append}
use Rattle.br_model.specs.Answer.{IsRefusal}
use Rattle.br_model.specs.Job.{JobRows}
use Rattle.br_model.specs.Choice.{Request, choose}
use Rattle.br_model.specs.View.{Entry, view_of}
use Rattle.br_model.specs.Console as model
use Rattle.br_model.specs.Console.{Console, after_answer, apply, at_start, marks_after, root}
use Rattle.br_model.specs.Plan.{Plan, plan_of}
use Rattle.br_model.proofs.AnswerLaws.{bind_ok, err_is, err_is_not_ok, ok_is}
use Rattle.br_tree.specs.Marking.{Marking, console_at, unmarked}
use Rattle.br_mark.specs.Said.{said}
use Rattle.br_mark.specs.Seen.{Situation}
use Rattle.br_mark.specs.declared.command.Command.{Command}
use Rattle.br_mark.specs.declared.fault.MarkFault.TheVariants.{Memory}
use Rattle.br_choose.specs.Fault as choice
use Rattle.br_choose.specs.declared.fault.ChooseFault.{ChooseFault}
use Rattle.br_choose.specs.declared.fault.ChooseFault.TheVariants as choosing
use Rattle.br_plan.specs.Fault as planning
use Rattle.br_plan.specs.Means.{IsViewOfChosen}
use Rattle.br_core.specs.Machine.{marks_of, plan_for}
use Rattle.br_core.specs.Planning.{after_command, after_script, console_after}

-- ---- the console at its start

-- the choice is refused
pub over_refused : (history : List JobRows) (q : Request) (why : ChooseFault) → IsRefusal (choice.cause why) (choose history q)
    → IsRefusal (planning.cause (planning.from_choice why)) (console_after history q [])
unfolding console_after
over_refused history q choosing.Memory e = tt
over_refused history q choosing.NoFull e = rw e refl
over_refused history q choosing.UnknownClient e = rw e refl
over_refused history q choosing.UnknownFileSet e = rw e refl

-- the console over the view of the chosen jobs
pub over_is : (history jobs : List JobRows) (q : Request) (view : List Entry) (m : Marking) (s : Situation) → choose history q ≡ Ok jobs → view ≡ view_of jobs → m ≡ unmarked view
    → s ≡ record { view = m.view; state = console_at root m } → console_after history q [] ≡ Ok s
unfolding console_after marks_after
over_is history jobs q view m s chosen viewed bare is =
    rw chosen
    (ap (λ (v : List Entry). Ok (record { view = v; state = at_start })) (sym viewed)
    ∙ ap (λ (t : Marking). Ok (record { view = t.view; state = console_at root t })) (sym bare) ∙ ap Ok (sym is))

-- a console at its start, and the jobs that were chosen for it
pub record IsOver (history : List JobRows) (q : Request) (s : Situation) : Type 0 where
  pub jobs : List JobRows
  pub chosen : choose history q ≡ Ok jobs
  pub is : s ≡ record { view = view_of jobs; state = at_start }

is_over : (history : List JobRows) (q : Request) (s : Situation) → console_after history q [] ≡ Ok s → IsOver history q s
unfolding console_after marks_after
is_over history q s e =
    let p = bind_ok (choose history q) (λ (jobs : List JobRows). Ok (record { view = view_of jobs; state = at_start })) s e in
    record { jobs = p.0; chosen = p.1; is = sym (ok_is (record { view = view_of p.0; state = at_start }) s p.2) }

-- ---- commands

-- the console after some commands and one more
marks_more : (view : List Entry) (c : Console) (script : List model.Command) (command : model.Command)
    → marks_after view c (script ++ command ∷ []) ≡ after_answer (marks_after view c script) (apply view (marks_after view c script) command)
unfolding marks_after
marks_more view c [] command = refl
marks_more view c (x ∷ xs) command = marks_more view (after_answer c (apply view c x)) xs command

-- the console before the first command
pub script_none : (s : Situation) → s ≡ after_script s []
unfolding marks_after
script_none s = refl

-- the first commands of a script, and one more
pub script_more : (start before after : Situation) (script : List Command) (i : ℕ) (command : Command) → i < length script → command ≡ get_or script i command
    → before ≡ after_script start (map said (take i script)) → after ≡ after_command before (said command)
    → after ≡ after_script start (map said (take (i + 1) script))
script_more start before after script i command lt is was now =
    let first = take i script in
    let more : take (i + 1) script ≡ first ++ command ∷ [] = take_more script i command lt ∙ ap (λ (x : Command). first ++ x ∷ []) (sym is) in
    now ∙ ap (λ (s : Situation). after_command s (said command)) was
    ∙ ap (λ (c : Console). record start { state = c }) (sym (marks_more start.view start.state (map said first) (said command)))
    ∙ ap (after_script start) (sym (ap (map said) more ∙ map-append said first (command ∷ [])))

-- ---- plans

-- the entries of the console after a script are the view of the chosen jobs
pub script_views : (history : List JobRows) (q : Request) (start s : Situation) (script : List model.Command) → console_after history q [] ≡ Ok start → s ≡ after_script start script
    → IsViewOfChosen history q s.view
script_views history q start s script begun is =
    let over = is_over history q start begun in
    λ jobs chosen.
    ap (λ (t : Situation). t.view) (is ∙ ap (λ (t : Situation). after_script t script) over.is)
    ∙ ap view_of (ok_is over.jobs jobs (sym over.chosen ∙ chosen))

-- the marks of the console after a script
marks_are : (history : List JobRows) (q : Request) (start s : Situation) (script : List model.Command) (over : IsOver history q start) → s ≡ after_script start script
    → marks_of over.jobs script ≡ s.state.marked
marks_are history q start s script over is = sym (ap (λ (t : Situation). t.state.marked) (is ∙ ap (λ (t : Situation). after_script t script) over.is))

-- the choice is refused
refused_too : (history : List JobRows) (q : Request) (script : List model.Command) (n : ℕ) (c : Result (List JobRows) ℕ) → choose history q ≡ c
    → console_after history q [] ≡ Err n → plan_for history q script ≡ Err n
unfolding console_after plan_for marks_after
refused_too history q script n (Ok jobs) h e = absurd (err_is_not_ok n (record { view = view_of jobs; state = at_start }) (sym e ∙ rw h refl))
refused_too history q script n (Err m) h e = rw h (ap Err (err_is {A = Situation} m n (sym (rw h refl) ∙ e)))

pub unchosen : (history : List JobRows) (q : Request) (script : List model.Command) (r : Option ℕ) → IsRefusal r (console_after history q []) → IsRefusal r (plan_for history q script)
unchosen history q script None e = tt
unchosen history q script (Some n) e = refused_too history q script n (choose history q) refl e

-- the plan is refused
pub unplanned : (history : List JobRows) (q : Request) (start s : Situation) (script : List model.Command) (r : Option ℕ) → console_after history q [] ≡ Ok start
    → s ≡ after_script start script → IsRefusal r (plan_of history q s.state.marked) → IsRefusal r (plan_for history q script)
unfolding plan_for
unplanned history q start s script None begun is e = tt
unplanned history q start s script (Some n) begun is e =
    let over = is_over history q start begun in
    let same = marks_are history q start s script over is in
    rw over.chosen (rw (ap (plan_of history q) same ∙ e) refl)

-- the plan is made
pub planned_by : (history : List JobRows) (q : Request) (start s : Situation) (script : List model.Command) (marks : List (List ℕ)) (plan : Plan) → console_after history q [] ≡ Ok start
    → s ≡ after_script start script → plan_of history q s.state.marked ≡ Ok plan → marks ≡ s.state.marked → plan_for history q script ≡ Ok (marks, plan)
unfolding plan_for
planned_by history q start s script marks plan begun is made are =
    let over = is_over history q start begun in
    let same = marks_are history q start s script over is in
    rw over.chosen (rw (ap (plan_of history q) same ∙ made) (ap (λ (m : List (List ℕ)). Ok (m, plan)) (same ∙ sym are)))
