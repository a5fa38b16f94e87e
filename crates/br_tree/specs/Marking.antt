-- A view and its marked paths, and the effects of marking and unmarking.
use Rattle.std.specs.Prelude.{ℕ, Bool, not, List, [], ◌++◌, length, map, filter, Option, Some, None, option_map, Result, Ok, Err}
use Rattle.std.specs.Borrow.{Bor}
use Rattle.br_model.specs.Order.{in_order, is_among}
use Rattle.br_model.specs.View.{Entry, view_paths, IsView}
use Rattle.br_model.specs.Console as model
use Rattle.br_model.specs.Console.{Console, IsConsole, children, sign, matches, last_component, root}

-- a view, and its marked paths in byte order
pub record Marking : Type 0 where
  pub view : List Entry
  pub marked : List (List ℕ)

-- the paths of the view
abbrev pub paths_of : Marking → List (List ℕ)
paths_of m = view_paths m.view

-- the console at a directory with these marks
abbrev pub console_at : List ℕ → Marking → Console
console_at directory m = record { directory = directory; marked = m.marked }

-- the view is in order, and the marks are paths of it in byte order, each once
pub record IsMarking (m : Marking) : Type 0 where
  pub view_is : IsView m.view
  pub marks_are : IsConsole m.view (console_at root m)

-- the paths that a pattern means in a directory: the names that match, and all below the
-- directories among them
abbrev pub meant : Marking → List ℕ → List ℕ → Result (List (List ℕ)) ℕ
meant m directory pattern = model.meant (paths_of m) directory pattern

-- the own paths of the directories that match, or of the directory itself if there is no pattern
abbrev pub meant_directories : Marking → List ℕ → Option (Bor (List ℕ)) → Result (List (List ℕ)) ℕ
meant_directories m directory pattern = model.meant_directories (paths_of m) directory (option_map (λ (p : Bor (List ℕ)). p.now) pattern)

-- a view without marks
abbrev pub unmarked : List Entry → Marking
unmarked view = record { view = view; marked = [] }

-- the paths that are meant are marked, too; if there are none, nothing changes
abbrev pub after_mark : Marking → Result (List (List ℕ)) ℕ → Marking
after_mark m (Ok paths) = record m { marked = in_order (λ path. path) (paths ++ m.marked) }
after_mark m (Err n) = m

-- the number of meant paths that were not marked; none if no path is meant
abbrev pub newly_marked : Marking → Result (List (List ℕ)) ℕ → Option ℕ
newly_marked m (Ok paths) = Some (length (filter (λ path. not (is_among m.marked path)) paths))
newly_marked m (Err n) = None

-- the paths that are meant are no longer marked; if there are none, nothing changes
abbrev pub after_unmark : Marking → Result (List (List ℕ)) ℕ → Marking
after_unmark m (Ok paths) = record m { marked = filter (λ path. not (is_among paths path)) m.marked }
after_unmark m (Err n) = m

-- the number of meant paths that were marked; none if no path is meant
abbrev pub newly_unmarked : Marking → Result (List (List ℕ)) ℕ → Option ℕ
newly_unmarked m (Ok paths) = Some (length (filter (λ path. is_among m.marked path) paths))
newly_unmarked m (Err n) = None

-- the names in a directory in byte order, each with its sign
abbrev pub signed_children : Marking → List ℕ → List (List ℕ × ℕ)
signed_children m directory = map (λ name. (name, sign m.marked (directory ++ name))) (children (paths_of m) directory)

-- the paths whose last component matches, each with whether it is marked
abbrev pub found_paths : Marking → List ℕ → List (List ℕ × Bool)
found_paths m pattern = map (λ path. (path, is_among m.marked path)) (filter (λ path. matches pattern (last_component path)) (paths_of m))

-- the entries of the marked paths
abbrev pub marked_entries : Marking → List Entry
marked_entries m = filter (λ (e : Entry). is_among m.marked e.path) m.view

-- for each entry in its order whether its path is marked
abbrev pub flags_of : Marking → List Bool
flags_of m = map (λ (e : Entry). is_among m.marked e.path) m.view
