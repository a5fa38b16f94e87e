-- The plan to restore the paths that patterns name in the view of the chosen jobs. A pattern is an
-- absolute path whose last component may have `*` and `?`. It marks what `mark` of the console marks
-- with this component, in the directory before it.
use Rattle.std.specs.Prelude.{ℕ, ◌-◌, Bool, not, if◌then◌else◌, List, [], ◌∷◌, length, map, take, filter, bytes_eq, codes, Result, Ok, Err}
use Rattle.std.specs.Result.{is_ok}
use Rattle.std.specs.Borrow.{Bor}
use Rattle.br_model.specs.Answer.{◌>>=◌}
use Rattle.br_model.specs.Choice.{choose}
use Rattle.br_model.specs.View.{Entry, view_paths, view_of}
use Rattle.br_model.specs.Console.{bare, begins_with, last_component, meant, root, with_marks}
use Rattle.br_model.specs.Plan.{Plan, plan_of}
use Rattle.br_tree.specs.Marking.{Marking, unmarked}
use Rattle.br_plan.specs.Asked.{Asked}

-- the bytes of each text
abbrev pub texts : List (Bor (List ℕ)) → List (List ℕ)
texts patterns = map (λ (p : Bor (List ℕ)). p.now) patterns

-- the front of a text, without as many bytes as an end has
abbrev pub front_before : List ℕ → List ℕ → List ℕ
front_before text end = take (length text - length end) text

-- the directory of a pattern and its last component, a slash at the end not counted; the root means
-- all names in it
abbrev pub place_of : List ℕ → List ℕ × List ℕ
place_of pattern =
    if bytes_eq pattern root then (root, codes "*")
    else (front_before (bare pattern) (last_component pattern), last_component pattern)

-- the view's paths that a pattern marks; or 57 if it does not begin with a slash or no name matches
unfoldable pub paths_by : List Entry → List ℕ → Result (List (List ℕ)) ℕ
paths_by view pattern =
    if begins_with pattern root then meant (view_paths view) (place_of pattern).0 (place_of pattern).1 else Err 57

-- whether a pattern marks a path of the view
abbrev pub is_met : List Entry → List ℕ → Bool
is_met view pattern = is_ok (paths_by view pattern)

-- the marks of the console after these paths are marked, too; a refusal changes nothing
abbrev pub marks_with : List (List ℕ) → Result (List (List ℕ)) ℕ → List (List ℕ)
marks_with marked (Ok paths) = (with_marks (record { directory = root; marked = marked }) paths).0.marked
marks_with marked (Err n) = marked

-- the marks after each pattern in order
unfoldable pub marks_from : List Entry → List (List ℕ) → List (List ℕ) → List (List ℕ)
marks_from view marked [] = marked
marks_from view marked (pattern ∷ more) = marks_from view (marks_with marked (paths_by view pattern)) more

-- the paths that the patterns mark in a view
abbrev pub marks_by : List Entry → List (List ℕ) → List (List ℕ)
marks_by view patterns = marks_from view [] patterns

-- the patterns that mark no path of a view, in order
abbrev pub missed_by : List Entry → List (List ℕ) → List (List ℕ)
missed_by view patterns = filter (λ pattern. not (is_met view pattern)) patterns

-- the view of the chosen jobs without marks, or the refusal of the choice
unfoldable pub unmarked_view : Asked → Result Marking ℕ
unmarked_view asked = do
  jobs ← choose asked.history asked.request
  Ok (unmarked (view_of jobs))

-- The plan to restore the paths that the patterns mark in the view of the chosen jobs. After the
-- refusals of the choice, 51 if they mark none.
unfoldable pub plan_of_paths : Asked → List (List ℕ) → Result Plan ℕ
plan_of_paths asked patterns = do
  tree ← unmarked_view asked
  plan_of asked.history asked.request (marks_by tree.view patterns)

-- the patterns that mark no path of this view, in order
unfoldable pub missed_of_paths : Asked → List (List ℕ) → Result (List (List ℕ)) ℕ
missed_of_paths asked patterns = do
  tree ← unmarked_view asked
  Ok (missed_by tree.view patterns)
