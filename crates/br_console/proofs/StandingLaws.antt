-- What drives that show more than the volumes of the chosen jobs find of a plan.
use Rattle.std.proofs.Common.{◌≡◌, ℕ, ◌+◌, ◌<◌, Bool, true, false, List, [], ◌∷◌, length, map, Option, Some, None, Result, Ok, Err, refl, sym, ap, subst, ◌∙◌, inr, arith}
use Rattle.std.specs.Prelude.{Contains, MatchOption, flat_map, fold, max}
use Rattle.std.specs.Io.KnownBytes.{Appends}
use Rattle.std.specs.List.{AllByRecursion, AllZip, enumerate_from}
use Rattle.br_model.specs.Text.{is_empty}
use Rattle.br_model.specs.Volume.{Volume}
use Rattle.br_model.specs.Bootstrap.{Range, Group}
use Rattle.br_model.specs.Meaning.{Piece, groups_on, just_groups, last_address, volumes_of, pieces_of, hits_in, hits_among, hits_on}
use Rattle.br_model.specs.Job.{Span, JobRows, Job}
use Rattle.br_model.specs.Choice.{Request, choose}
use Rattle.br_model.specs.View.{Entry, view_of}
use Rattle.br_model.specs.Console.{console_lines, marks_at_done}
use Rattle.br_model.specs.Plan.{Plan, plan_of, plan_groups, selection}
use Rattle.br_model.specs.PlanMeaning.{rows_of_jobs}
use Rattle.br_model.proofs.AnswerLaws.{bind_ok, ok_is}
use Rattle.br_model.proofs.EntryLaws.{chosen_are_jobs}
use Rattle.br_model.proofs.ListLaws.{first_in, later_in, of_each}
use Rattle.br_model.proofs.PieceLaws.{piece_of}
use Rattle.br_model.proofs.PlanLaws.{plan_is}
use Rattle.br_model.proofs.PlanVolumeLaws.{IsGroupOf, IsJobLaid, plan_spans, plan_groups_are, spans_on, groups_on_are, chosen_are_laid, plan_is_walked, each_volume_has_groups}
use Rattle.br_model.proofs.SpanLaws.{end_not_above}
use Rattle.br_volume.specs.Drive.{OnlyGrows}
use Rattle.br_match.specs.Matching.{IsEnclosed}
use Rattle.br_volume.proofs.ExtendLaws.{extends_itself}
use Rattle.br_mark.specs.Seen.{Situation}
use Rattle.br_pool.specs.Pool.{StandsTold}
use Rattle.br_engine.specs.Restoring.{Told, AllStand}
use Rattle.br_console.specs.ConsoleFault.{Refusal, WritesFront, cause}
use Rattle.br_console.specs.Running.{Run, Answer, Runs, Shows, opening, begun, with_console, with_marks, with_plan, console_run}
use Rattle.br_console.specs.Selecting.{AllHold, DrivesStandForPlans, RestoresAll, ReturnsAllOrFails, RunsMeanSelection, RunsRestoreSelection, ShowsMore}
use Rattle.br_console.specs.declared.console_fault.ConsoleFault.{ConsoleFault}
use Rattle.br_console.specs.declared.ending.ConsoleRun.{ConsoleRun}

-- ---- the pieces of a plan

-- a group has addresses, and the last of them is below a number
abbrev EndsBelow : ℕ → ℕ × Group → Type 0
EndsBelow size g = (is_empty g.1.addresses ≡ false) × (last_address g.1 < size)

-- the group of a span asks for its bytes alone
group_ends : (size : ℕ) (g : ℕ × Group) (s : Span) → IsGroupOf g.1 s → s.end < size → EndsBelow size g
group_ends size g s is below =
    let last : last_address g.1 ≡ max 0 s.end = ap (λ (rs : List Range). fold (λ n (r : Range). max n r.high) 0 rs) is.addresses_are in
    (ap (λ (rs : List Range). is_empty rs) is.addresses_are, omega (arith, last, below))

groups_end : (size : ℕ) (numbered : List (ℕ × Group)) (spans : List Span) → AllZip IsGroupOf (just_groups numbered) spans → ((s : Span) → Contains spans s → s.end < size)
    → AllByRecursion (EndsBelow size) numbered
groups_end size [] spans are below = tt
groups_end size (g ∷ gs) [] are below = absurd are
groups_end size (g ∷ gs) (s ∷ ss) are below =
    (group_ends size g s are.0 (below s (first_in s ss s refl)), groups_end size gs ss are.1 (λ t inside. below t (later_in s ss t inside)))

-- over the volumes on which its jobs are laid the part of a plan on a volume is enclosed
piece_is_enclosed : (volumes : List Volume) (selected : List Entry) (jobs : List JobRows) (n : ℕ) (volume : List ℕ) → AllByRecursion (IsJobLaid volumes) jobs
    → 0 < length (groups_on (plan_groups selected jobs) volume) → IsEnclosed volumes (piece_of (plan_groups selected jobs) (n, volume))
unfolding hits_on hits_among
piece_is_enclosed volumes selected jobs n volume laid some =
    let groups = plan_groups selected jobs in
    let w = plan_is_walked volumes volumes selected jobs volume (extends_itself volumes) laid some in
    let here = spans_on (plan_spans selected jobs) volume in
    record {
      some = some;
      hits = flat_map (hits_in (groups_on groups volume)) w.all;
      defined = rw (w.found, w.walked) refl;
      bytes = w.bytes;
      found = w.found;
      ended = groups_end (length w.bytes) (groups_on groups volume) here (groups_on_are groups (plan_spans selected jobs) volume (plan_groups_are selected jobs))
          (λ s inside. omega (arith, end_not_above here s inside, w.whole.within));
    }

pieces_are_enclosed : (volumes : List Volume) (selected : List Entry) (jobs : List JobRows) (n : ℕ) (names : List (List ℕ)) → AllByRecursion (IsJobLaid volumes) jobs
    → AllByRecursion (λ (v : List ℕ). 0 < length (groups_on (plan_groups selected jobs) v)) names
    → AllByRecursion (IsEnclosed volumes) (map (piece_of (plan_groups selected jobs)) (enumerate_from n names))
pieces_are_enclosed volumes selected jobs n [] laid some = tt
pieces_are_enclosed volumes selected jobs n (v ∷ vs) laid some =
    (piece_is_enclosed volumes selected jobs n v laid some.0, pieces_are_enclosed volumes selected jobs (n + 1) vs laid some.1)

-- over the volumes on which its jobs are laid each piece of a plan is enclosed
plan_is_enclosed : (volumes : List Volume) (selected : List Entry) (jobs : List JobRows) → AllByRecursion (IsJobLaid volumes) jobs
    → AllByRecursion (IsEnclosed volumes) (pieces_of (plan_groups selected jobs))
unfolding pieces_of
plan_is_enclosed volumes selected jobs laid =
    pieces_are_enclosed volumes selected jobs 0 (volumes_of (plan_groups selected jobs)) laid (each_volume_has_groups (plan_groups selected jobs))

-- ---- the plan of a run

-- a plan that is there was made for some marks
record IsPlanOf (history : List JobRows) (q : Request) (plan : Plan) : Type 0 where
  marks : List (List ℕ)
  planned : plan_of history q marks ≡ Ok plan

of_plan : (history : List JobRows) (q : Request) (text : List ℕ) (clean : Bool) (marks : List (List ℕ)) (made : Result Plan ℕ) (plan : Plan) → plan_of history q marks ≡ made
    → (with_plan text clean made).plan ≡ Ok (Some plan) → IsPlanOf history q plan
of_plan history q text clean marks (Ok p) plan is e = record { marks = marks; planned = is ∙ ap (λ (x : Plan). Ok x) (same e) }
  where
    same : ◌≡◌ {A = Result (Option Plan) ℕ} (Ok (Some p)) (Ok (Some plan)) → p ≡ plan
    same h = cc
of_plan history q text clean marks (Err n) plan is e = absurd cc

of_marks : (history : List JobRows) (q : Request) (text : List ℕ) (clean : Bool) (marks : Option (List (List ℕ))) (plan : Plan)
    → (with_marks history q text clean marks).plan ≡ Ok (Some plan) → IsPlanOf history q plan
of_marks history q text clean None plan e = absurd cc
of_marks history q text clean (Some marks) plan e = of_plan history q text clean marks (plan_of history q marks) plan refl e

of_console : (history : List JobRows) (q : Request) (lines : List (List ℕ)) (s : Result Situation ℕ) (plan : Plan)
    → (with_console history q lines s).plan ≡ Ok (Some plan) → IsPlanOf history q plan
of_console history q lines (Ok s) plan e = of_marks history q _ _ (marks_at_done s.view s.state lines) plan e
of_console history q lines (Err n) plan e = absurd cc

plan_of_run : (history : List JobRows) (q : Request) (text : List ℕ) (plan : Plan) → (begun history q text).plan ≡ Ok (Some plan) → IsPlanOf history q plan
unfolding begun
plan_of_run history q text plan e = of_console history q (console_lines text) (opening history q) plan e

-- a plan is for chosen jobs
chosen_for : (history : List JobRows) (q : Request) (marks : List (List ℕ)) (plan : Plan) → plan_of history q marks ≡ Ok plan → (chosen : List JobRows) × (choose history q ≡ Ok chosen)
unfolding plan_of
chosen_for history q marks plan e = let p = bind_ok (choose history q) _ plan e in (p.0, p.1)

-- ---- drives

-- drives that show more than these volumes may be taken to show these for pieces that are enclosed in them
all_stand : (pieces : List Piece) (volumes : List Volume) (earlier later : Told) → AllByRecursion (IsEnclosed volumes) pieces → AllByRecursion (ShowsMore volumes) earlier
    → AllZip OnlyGrows earlier later → AllStand earlier later pieces volumes
all_stand pieces volumes [] [] enclosed more grow = tt
all_stand pieces volumes [] (l ∷ ls) enclosed more grow = absurd grow
all_stand pieces volumes (e ∷ es) [] enclosed more grow = absurd grow
all_stand pieces volumes (e ∷ es) (l ∷ ls) enclosed more grow = (go e l more.0 grow.0, all_stand pieces volumes es ls enclosed more.1 grow.1)
  where
    go : (old new : Option (List Volume)) → ShowsMore volumes old → OnlyGrows old new → StandsTold pieces volumes old new
    go None new shows grows = absurd shows
    go (Some old) None shows grows = absurd grows
    go (Some old) (Some new) shows grows = (shows, inr enclosed)

pub drives_stand_for_plans_lem : DrivesStandForPlans
drives_stand_for_plans_lem jobs q text volumes earlier later hold more plan is =
    let of = plan_of_run (rows_of_jobs jobs) q text plan is in
    let c = chosen_for (rows_of_jobs jobs) q of.marks plan of.planned in
    let among = chosen_are_jobs (rows_of_jobs jobs) c.0 q c.1 in
    let laid : AllByRecursion (IsJobLaid volumes) c.0 =
    chosen_are_laid volumes jobs c.0 (λ r inside. of_each (Contains (rows_of_jobs jobs)) c.0 r among inside) (hold c.0 c.1) in
    let enclosed : AllByRecursion (IsEnclosed volumes) (pieces_of plan.groups) =
    subst (λ (p : Plan). AllByRecursion (IsEnclosed volumes) (pieces_of p.groups)) (plan_is (rows_of_jobs jobs) c.0 q of.marks plan c.1 of.planned)
    (plan_is_enclosed volumes (selection (view_of c.0) of.marks) c.0 laid) in
    all_stand (pieces_of plan.groups) volumes earlier later enclosed more.0 more.1

-- ---- the run

-- a run that restores all is not refused
not_refused : (expected : Run) (answer : Answer) (before after : Option (List ℕ)) (broken : Type 0) (why : Option Refusal) → expected.answer ≡ Ok answer
    → MatchOption why broken (λ e. (expected.answer ≡ Err e) × Appends before after expected.text) → why ≡ None
not_refused expected answer before after broken None is refuses = refl
not_refused expected answer before after broken (Some why) is refuses = let both = sym is ∙ refuses.0 in absurd cc

-- what a run over the volumes returned
returned : (jobs : List Job) (selected : List Entry) (text : List ℕ) (clean : Bool) (before after : Option (List ℕ)) (expected : Run) (result : Result ConsoleRun ConsoleFault)
    → RestoresAll jobs selected text expected clean → Runs before after result expected → ReturnsAllOrFails jobs selected text clean before after result
returned jobs selected text clean before after expected (Ok run) all runs = record {
  copies = all.copies;
  appended = subst (Appends before after) all.text_is runs.3;
  returned = subst (Shows run) (ok_is runs.0 (record { is_clean = clean; restored = Some true }) (sym runs.1 ∙ all.answer_is)) runs.2;
  are_copies = all.are_copies;
  are_all = all.are_all;
}
returned jobs selected text clean before after expected (Err why) all runs =
    not_refused expected (record { is_clean = clean; restored = Some true }) before after (WritesFront before after expected.text why) (cause why) all.answer_is runs

-- drives that show more than the volumes of the chosen jobs, and the law of runs, give it
pub runs_restore_selection_of : DrivesStandForPlans → RunsMeanSelection → RunsRestoreSelection
runs_restore_selection_of stand mean jobs q text chosen marks volumes earlier later before after result history are_jobs is_chosen done some hold more runs =
    returned jobs (selection (view_of chosen) marks) (begun (rows_of_jobs jobs) q text).text (begun (rows_of_jobs jobs) q text).is_clean before after
    (console_run (rows_of_jobs jobs) q text volumes) result
    (mean jobs q text chosen marks volumes volumes history are_jobs is_chosen done some hold (extends_itself volumes))
    (runs volumes (stand jobs q text volumes earlier later (λ others are. subst (AllHold volumes jobs) (ok_is chosen others (sym is_chosen ∙ are)) hold) more))
