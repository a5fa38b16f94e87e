-- The paths that a change means, and the marks after it.
use Rattle.std.specs.Prelude.{ℕ, Bool, true, false, List, Option, Some, None, option_map, Result, bytes_eq}
use Rattle.std.specs.Borrow.{Bor}
use Rattle.br_model.specs.Console as model
use Rattle.br_tree.specs.Marking.{Marking, after_mark, after_unmark, newly_marked, newly_unmarked}
use Rattle.br_tree.specs.Walk.{is_picked}
use Rattle.br_tree.specs.declared.change.Change.{Change}
use Rattle.br_tree.specs.declared.change.Change.TheVariants.{Mark, Unmark}
use Rattle.br_tree.specs.declared.change.Meant.{Meant}
use Rattle.br_tree.specs.declared.change.Meant.TheVariants.{Names, Directories}

-- the flag of a meant path after the change
abbrev pub flag_of : Change → Bool
flag_of Mark = true
flag_of Unmark = false

-- whether a path is meant in a directory
abbrev pub is_chosen : Meant → List ℕ → List ℕ → Bool
is_chosen (Names pattern) directory = is_picked true directory pattern.now
is_chosen (Directories (Some pattern)) directory = is_picked false directory pattern.now
is_chosen (Directories None) directory = bytes_eq directory

-- the paths that are meant in a directory, as in the model
abbrev pub chosen : List (List ℕ) → List ℕ → Meant → Result (List (List ℕ)) ℕ
chosen paths directory (Names pattern) = model.meant paths directory pattern.now
chosen paths directory (Directories pattern) = model.meant_directories paths directory (option_map (λ (p : Bor (List ℕ)). p.now) pattern)

-- the marks after the change of the paths that are meant
abbrev pub after_change : Change → Marking → Result (List (List ℕ)) ℕ → Marking
after_change Mark m paths = after_mark m paths
after_change Unmark m paths = after_unmark m paths

-- the number of paths whose mark the change sets or removes
abbrev pub newly_changed : Change → Marking → Result (List (List ℕ)) ℕ → Option ℕ
newly_changed Mark m paths = newly_marked m paths
newly_changed Unmark m paths = newly_unmarked m paths
