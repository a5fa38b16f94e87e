-- The marks of patterns one by one, and the plan for them.
use Rattle.std.proofs.Common.{◌≡◌, ℕ, ◌+◌, ◌<◌, get_or, Bool, true, false, not, cond, List, [], ◌∷◌, ◌++◌, length, take, Option, Some, None, Result, Ok, Err, refl, sym, ap, ◌∙◌}
use Rattle.std.proofs.lemmas.List.{map-append, take_more}
use Rattle.std.specs.Borrow.{Bor}
use Rattle.br_model.specs.Answer.{◌>>=◌, IsRefusal}
use Rattle.br_model.specs.Job.{JobRows}
use Rattle.br_model.specs.Choice.{choose}
use Rattle.br_model.specs.View.{Entry, view_paths, view_of}
use Rattle.br_model.specs.Console.{Console, Mark, apply, after_answer, begins_with, meant, root, with_marks}
use Rattle.br_model.specs.Plan.{Plan, plan_of}
use Rattle.br_model.proofs.AnswerLaws.{bind_ok}
use Rattle.br_tree.specs.Marking.{Marking, after_mark, unmarked}
use Rattle.br_choose.specs.Fault as choice
use Rattle.br_choose.specs.declared.fault.ChooseFault.{ChooseFault}
use Rattle.br_choose.specs.declared.fault.ChooseFault.TheVariants as choosing
use Rattle.br_plan.specs.Fault as plan
use Rattle.br_plan.specs.Asked.{Asked}
use Rattle.br_plan.specs.Means.{IsViewOfChosen}
use Rattle.br_console.specs.MarkedPaths.{texts, place_of, paths_by, is_met, marks_with, marks_from, missed_by, unmarked_view, plan_of_paths, missed_of_paths}

-- the marks after one more pattern
pub marks_more : (view : List Entry) (marked : List (List ℕ)) (done : List (List ℕ)) (pattern : List ℕ)
    → marks_from view marked (done ++ pattern ∷ []) ≡ marks_with (marks_from view marked done) (paths_by view pattern)
unfolding marks_from
marks_more view marked [] pattern = refl
marks_more view marked (first ∷ done) pattern = marks_more view (marks_with marked (paths_by view first)) done pattern

-- the missed patterns with one more
pub missed_more : (view : List Entry) (done : List (List ℕ)) (pattern : List ℕ) → missed_by view (done ++ pattern ∷ []) ≡ missed_by view done ++ missed_by view (pattern ∷ [])
missed_more view [] pattern = refl
missed_more view (first ∷ done) pattern = go (is_met view first) (missed_more view done pattern)
  where
    go : (met : Bool) → missed_by view (done ++ pattern ∷ []) ≡ missed_by view done ++ missed_by view (pattern ∷ [])
        → cond (not met) (first ∷ missed_by view (done ++ pattern ∷ [])) (missed_by view (done ++ pattern ∷ [])) ≡ cond (not met) (first ∷ missed_by view done) (missed_by view done) ++ missed_by view (pattern ∷ [])
    go true same = same
    go false same = ap (λ more. first ∷ more) same

-- the texts up to a place with the one at this place
pub texts_more : (all : List (Bor (List ℕ))) (i : ℕ) (none : Bor (List ℕ)) → i < length all → texts (take (i + 1) all) ≡ texts (take i all) ++ (get_or all i none).now ∷ []
texts_more all i none lt = ap texts (take_more all i none lt) ∙ map-append (λ (p : Bor (List ℕ)). p.now) (take i all) (get_or all i none ∷ [])

-- the marks and the missed patterns after some patterns, from a tree
abbrev pub HasMarked : Marking → Marking → List (List ℕ) → List (List ℕ) → Type 0
HasMarked first tree missed done =
    (tree.view ≡ first.view) × (tree.marked ≡ marks_from first.view first.marked done) × (missed ≡ missed_by first.view done)

-- so with one more pattern
pub has_marked_more : (first tree next : Marking) (missed more done : List (List ℕ)) (pattern : List ℕ) → HasMarked first tree missed done
    → next ≡ after_mark tree (paths_by tree.view pattern) → more ≡ missed ++ missed_by tree.view (pattern ∷ []) → HasMarked first next more (done ++ pattern ∷ [])
has_marked_more first tree next missed more done pattern h is told =
    let r = paths_by tree.view pattern in (
      ap (λ (t : Marking). t.view) is ∙ after_view r ∙ h.0,
      ap (λ (t : Marking). t.marked) is ∙ after_marks r ∙ ap (λ view. marks_with tree.marked (paths_by view pattern)) h.0
          ∙ ap (λ marks. marks_with marks (paths_by first.view pattern)) h.1 ∙ sym (marks_more first.view first.marked done pattern),
      told ∙ ap (λ view. missed ++ missed_by view (pattern ∷ [])) h.0 ∙ ap (λ ms. ms ++ missed_by first.view (pattern ∷ [])) h.2
          ∙ sym (missed_more first.view done pattern),
    )
  where
    after_view : (r : Result (List (List ℕ)) ℕ) → (after_mark tree r).view ≡ tree.view
    after_view (Ok paths) = refl
    after_view (Err n) = refl

    after_marks : (r : Result (List (List ℕ)) ℕ) → (after_mark tree r).marked ≡ marks_with tree.marked r
    after_marks (Ok paths) = refl
    after_marks (Err n) = refl

-- each pattern marks what the console marks by `mark` of its last component, in the directory before it
pub marks_as_console : (view : List Entry) (marked : List (List ℕ)) (pattern : List ℕ) → begins_with pattern root ≡ true
    → marks_with marked (paths_by view pattern)
    ≡ (after_answer (record { directory = (place_of pattern).0; marked = marked }) (apply view (record { directory = (place_of pattern).0; marked = marked }) (Mark (place_of pattern).1))).marked
unfolding paths_by apply
marks_as_console view marked pattern begins = rw begins (go (meant (view_paths view) (place_of pattern).0 (place_of pattern).1))
  where
    at : Console
    at = record { directory = (place_of pattern).0; marked = marked }

    go : (paths : Result (List (List ℕ)) ℕ) → marks_with marked paths ≡ (after_answer at (paths >>= (λ marks. Ok (with_marks at marks)))).marked
    go (Ok marks) = refl
    go (Err n) = refl

-- ---- the view without marks

-- the view of jobs that the request chooses, without marks
pub record IsBare (asked : Asked) (tree : Marking) : Type 0 where
  pub jobs : List JobRows
  pub chosen : choose asked.history asked.request ≡ Ok jobs
  pub is_view : tree ≡ unmarked (view_of jobs)

pub bare_of : (asked : Asked) (tree : Marking) → unmarked_view asked ≡ Ok tree → IsBare asked tree
unfolding unmarked_view
bare_of asked tree e =
    let step = bind_ok (choose asked.history asked.request) (λ jobs. Ok (unmarked (view_of jobs))) tree e in
    record { jobs = step.0; chosen = step.1; is_view = same (unmarked (view_of step.0)) step.2 }
  where
    same : (t : Marking) → ◌≡◌ {A = Result Marking ℕ} (Ok t) (Ok tree) → tree ≡ t
    same t h = cc

-- if there is no such view, the choice is refused
pub unchosen : (asked : Asked) (n : ℕ) → unmarked_view asked ≡ Err n → choose asked.history asked.request ≡ Err n
unfolding unmarked_view
unchosen asked n e = go (choose asked.history asked.request) e
  where
    number : (m : ℕ) → ◌≡◌ {A = Result Marking ℕ} (Err m) (Err n) → m ≡ n
    number m h = cc

    go : (r : Result (List JobRows) ℕ) → (r >>= (λ jobs. Ok (unmarked (view_of jobs)))) ≡ Err n → r ≡ Err n
    go (Ok jobs) h = absurd cc
    go (Err m) h = ap Err (number m h)

-- the choice is refused
pub view_refused : (asked : Asked) (why : ChooseFault) → IsRefusal (choice.cause why) (choose asked.history asked.request) → IsRefusal (plan.cause (plan.from_choice why)) (unmarked_view asked)
unfolding unmarked_view
view_refused asked choosing.Memory e = tt
view_refused asked choosing.NoFull e = rw e refl
view_refused asked choosing.UnknownClient e = rw e refl
view_refused asked choosing.UnknownFileSet e = rw e refl

-- the tree of the view of the chosen jobs
pub view_is : (asked : Asked) (jobs : List JobRows) (view : List Entry) (tree : Marking) → choose asked.history asked.request ≡ Ok jobs → view ≡ view_of jobs → tree ≡ unmarked view
    → unmarked_view asked ≡ Ok tree
unfolding unmarked_view
view_is asked jobs view tree chosen viewed bare = rw chosen (ap (λ v. Ok (unmarked v)) (sym viewed) ∙ ap Ok (sym bare))

-- it is the view of the chosen jobs
pub tree_views : (asked : Asked) (tree : Marking) (view : List Entry) → unmarked_view asked ≡ Ok tree → view ≡ tree.view → IsViewOfChosen asked.history asked.request view
tree_views asked tree view e same = λ jobs chosen.
    let bare = bare_of asked tree e in
    same ∙ ap (λ (t : Marking). t.view) bare.is_view ∙ ap view_of (one bare.jobs jobs (sym bare.chosen ∙ chosen))
  where
    one : (js ks : List JobRows) → ◌≡◌ {A = Result (List JobRows) ℕ} (Ok js) (Ok ks) → js ≡ ks
    one js ks h = cc

-- nothing is marked in it
pub tree_is_bare : (asked : Asked) (tree : Marking) → unmarked_view asked ≡ Ok tree → tree.marked ≡ []
tree_is_bare asked tree e = ap (λ (t : Marking). t.marked) (bare_of asked tree e).is_view

-- ---- the plan

-- the plan for the marks that the patterns leave
pub planned : (asked : Asked) (tree : Marking) (patterns marks : List (List ℕ)) → unmarked_view asked ≡ Ok tree → marks ≡ marks_from tree.view tree.marked patterns
    → plan_of_paths asked patterns ≡ plan_of asked.history asked.request marks
unfolding plan_of_paths
planned asked tree patterns marks e same =
    rw e
    (ap (λ marked. plan_of asked.history asked.request (marks_from tree.view marked patterns)) (sym (tree_is_bare asked tree e))
    ∙ ap (plan_of asked.history asked.request) (sym same))

-- the patterns that mark nothing
pub told : (asked : Asked) (tree : Marking) (patterns missed : List (List ℕ)) → unmarked_view asked ≡ Ok tree → missed ≡ missed_by tree.view patterns
    → missed_of_paths asked patterns ≡ Ok missed
unfolding missed_of_paths
told asked tree patterns missed e same = rw e (ap Ok (sym same))

-- a refused choice is a refused plan
pub unplanned : (asked : Asked) (patterns : List (List ℕ)) (why : Option ℕ) → IsRefusal why (unmarked_view asked) → IsRefusal why (plan_of_paths asked patterns)
unfolding plan_of_paths
unplanned asked patterns None e = tt
unplanned asked patterns (Some n) e = rw e refl
