-- What a command leaves of the marks: they stay in order, each once and in the view.
use Rattle.std.proofs.Common.{◌≡◌, ℕ, Bool, true, false, not, cond, List, ◌++◌, map, filter, Option, Some, None, Result, Ok, Err, refl, subst}
use Rattle.std.proofs.lemmas.List.Elements.{All-nil, All-filter, All-from_recursion, recursion_from_All}
use Rattle.std.proofs.lemmas.Slice.Eq.{bytes_eq-Decides}
use Rattle.std.specs.Prelude.{bytes_eq, flat_map}
use Rattle.std.specs.List.{AllByRecursion}
use Rattle.br_model.specs.Answer.{◌>>=◌, refuse_if}
use Rattle.br_model.specs.Text.{is_empty}
use Rattle.br_model.specs.Order.{in_order, ranked, put_all, is_among}
use Rattle.br_model.specs.Name.{is_directory}
use Rattle.br_model.specs.View.{Entry, view_paths}
use Rattle.br_model.specs.Console.{Cd, Pwd, Ls, Mark, Unmark, MarkDir, UnmarkDir, Count, LsMark, Find, Estimate, Done, Quit, Console, IsConsole, Answer, Text, cwd_line, child_line, found_line, last_component, is_directory_of, is_meant, matches, says, with_marks, without_marks, meant, meant_directories, some_of, matching, apply, resolve, ConsoleStays, StartIsConsole}
use Rattle.br_model.proofs.AnswerLaws.{bind_ok, refuse_ok, ok_is}
use Rattle.br_model.proofs.ListLaws.{all_append, all_filter, some_passes, to_each}
use Rattle.br_model.proofs.OrderLaws.{all_in_order, in_order_again, kept_stays}

-- the paths are in the view
abbrev AreIn : List Entry → List (List ℕ) → Type 0
AreIn view paths = AllByRecursion (λ (path : List ℕ). is_among (view_paths view) path ≡ true) paths

-- paths that are kept of the view's are in it
kept_are_in : (view : List Entry) (p : List ℕ → Bool) → AreIn view (filter p (view_paths view))
kept_are_in view p =
    all_filter (λ path. is_among (view_paths view) path ≡ true) p (view_paths view)
    (to_each (λ path. is_among (view_paths view) path ≡ true) (view_paths view) (λ path inside. some_passes (bytes_eq path) (view_paths view) path inside ((bytes_eq-Decides path path).1 refl)))

-- if some are found, they are in it
some_are_in : (view : List Entry) (p : List ℕ → Bool) (paths : List (List ℕ)) → some_of (filter p (view_paths view)) ≡ Ok paths → AreIn view paths
some_are_in view p paths e = go (is_empty (filter p (view_paths view))) e
  where
    go : (b : Bool) → ◌≡◌ {A = Result (List (List ℕ)) ℕ} (cond b (Err 57) (Ok (filter p (view_paths view)))) (Ok paths) → AreIn view paths
    go true h = absurd cc
    go false h = subst (AreIn view) (ok_is (filter p (view_paths view)) paths h) (kept_are_in view p)

-- what a pattern means is in the view
meant_are_in : (view : List Entry) (directory pattern : List ℕ) (paths : List (List ℕ)) → meant (view_paths view) directory pattern ≡ Ok paths → AreIn view paths
unfolding meant
meant_are_in view directory pattern paths e =
    let names = bind_ok (some_of (matching (view_paths view) directory pattern)) (λ names. Ok (filter (is_meant directory names) (view_paths view))) paths e in
    subst (AreIn view) (ok_is (filter (is_meant directory names.0) (view_paths view)) paths names.2) (kept_are_in view (is_meant directory names.0))

-- so are the directories that it means
meant_directories_are_in : (view : List Entry) (directory : List ℕ) (pattern : Option (List ℕ)) (paths : List (List ℕ)) → meant_directories (view_paths view) directory pattern ≡ Ok paths → AreIn view paths
unfolding meant_directories
meant_directories_are_in view directory None paths e = some_are_in view (bytes_eq directory) paths e
meant_directories_are_in view directory (Some pattern) paths e =
    some_are_in view (is_among (map (λ name. directory ++ name) (filter is_directory (matching (view_paths view) directory pattern)))) paths e

-- marks that are in order and in the view stay so with paths of the view
marked_stays : (view : List Entry) (c : Console) (paths : List (List ℕ)) → IsConsole view c → AreIn view paths → IsConsole view (with_marks c paths).0
marked_stays view c paths is are_in =
    let In : List ℕ → Type 0 = λ path. is_among (view_paths view) path ≡ true in
    record {
      ordered = in_order_again (λ path. path) (paths ++ c.marked);
      in_view =
          All-from_recursion In (in_order (λ path. path) (paths ++ c.marked))
          (all_in_order (λ path. path) In (paths ++ c.marked) (all_append In paths c.marked are_in (recursion_from_All In c.marked is.in_view)));
    }

-- so they do without some paths
unmarked_stays : (view : List Entry) (c : Console) (paths : List (List ℕ)) → IsConsole view c → IsConsole view (without_marks c paths).0
unmarked_stays view c paths is =
    let In : List ℕ → Type 0 = λ path. is_among (view_paths view) path ≡ true in
    let kept : List ℕ → Bool = λ path. not (is_among paths path) in
    record {
      ordered = kept_stays (λ path. path) kept c.marked is.ordered;
      in_view = All-filter kept In c.marked is.in_view;
    }

-- a command that leads to the console r keeps the marks in order, if they are in r
stays_by : (view : List Entry) (s r : Console × Answer) → ◌≡◌ {A = Result (Console × Answer) ℕ} (Ok s) (Ok r) → IsConsole view s.0 → IsConsole view r.0
stays_by view s r e is = subst (λ (t : Console × Answer). IsConsole view t.0) (ok_is s r e) is

-- the same of a command that first finds something
stays_with : {A : Type 0} (view : List Entry) (found : Result A ℕ) (next : A → Console × Answer) (r : Console × Answer) → (found >>= λ x. Ok (next x)) ≡ Ok r
    → ((x : A) → found ≡ Ok x → IsConsole view (next x).0) → IsConsole view r.0
stays_with {A} view found next r e stays =
    let x = bind_ok found (λ (x : A). Ok (next x)) r e in
    stays_by view (next x.0) r x.2 (stays x.0 x.1)

pub console_stays_lem : ConsoleStays
unfolding apply
console_stays_lem view c (Cd way) r is e =
    let to = bind_ok (resolve c.directory way) (λ directory. refuse_if (not (is_directory_of (view_paths view) directory)) 56 >>= λ done. Ok (record c { directory = directory }, Text (cwd_line directory))) r e in
    let there = refuse_ok (not (is_directory_of (view_paths view) to.0)) 56 (λ done. Ok (record c { directory = to.0 }, Text (cwd_line to.0))) r to.2 in
    stays_by view (record c { directory = to.0 }, Text (cwd_line to.0)) r there.1 (record { ordered = is.ordered; in_view = is.in_view })
console_stays_lem view c Pwd r is e = stays_by view _ r e is
console_stays_lem view c (Ls None) r is e = stays_by view _ r e is
console_stays_lem view c (Ls (Some pattern)) r is e =
    stays_with view (some_of (matching (view_paths view) c.directory pattern)) (λ names. says c (flat_map (child_line c) names)) r e (λ names found. is)
console_stays_lem view c (Mark pattern) r is e =
    stays_with view (meant (view_paths view) c.directory pattern) (with_marks c) r e (λ paths found. marked_stays view c paths is (meant_are_in view c.directory pattern paths found))
console_stays_lem view c (Unmark pattern) r is e =
    stays_with view (meant (view_paths view) c.directory pattern) (without_marks c) r e (λ paths found. unmarked_stays view c paths is)
console_stays_lem view c (MarkDir pattern) r is e =
    stays_with view (meant_directories (view_paths view) c.directory pattern) (with_marks c) r e (λ paths found. marked_stays view c paths is (meant_directories_are_in view c.directory pattern paths found))
console_stays_lem view c (UnmarkDir pattern) r is e =
    stays_with view (meant_directories (view_paths view) c.directory pattern) (without_marks c) r e (λ paths found. unmarked_stays view c paths is)
console_stays_lem view c Count r is e = stays_by view _ r e is
console_stays_lem view c LsMark r is e = stays_by view _ r e is
console_stays_lem view c (Find pattern) r is e =
    stays_with view (some_of (filter (λ path. matches pattern (last_component path)) (view_paths view))) (λ paths. says c (flat_map (found_line c) paths)) r e (λ paths found. is)
console_stays_lem view c Estimate r is e = stays_by view _ r e is
console_stays_lem view c Done r is e = stays_by view _ r e is
console_stays_lem view c Quit r is e = stays_by view _ r e is

pub start_is_console_lem : StartIsConsole
unfolding in_order ranked put_all
start_is_console_lem view = record { ordered = refl; in_view = All-nil (λ path. is_among (view_paths view) path ≡ true) }
