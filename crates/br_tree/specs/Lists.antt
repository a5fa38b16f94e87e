-- Lists of pairs and flags.
use Rattle.std.specs.Prelude.{◌≡◌, ℕ, Bool, not, if◌then◌else◌, List, [], ◌∷◌, ◌++◌, take, reverse, map}
use Rattle.std.specs.List.{prefix_len}
use Rattle.br_model.specs.Name.{is_slash}
use Rattle.br_model.specs.Console.{matches, last_component, child_of, children}
use Rattle.br_tree.specs.declared.child.Child.{Child}
use Rattle.br_tree.specs.Seen.{seen_child, signed}
use Rattle.br_tree.specs.Walk.{Pair, seen_paths, some_name, marked_in}

-- the pairs whose flags are set
abbrev pub kept : List Pair → List Bool → List Pair
kept [] flags = []
kept (pair ∷ pairs) [] = []
kept (pair ∷ pairs) (flag ∷ flags) = (if flag then pair ∷ [] else []) ++ kept pairs flags

-- the paths whose last component matches, each with its flag
abbrev pub found_in : List ℕ → List Pair → List Bool → List (List ℕ × Bool)
found_in pattern [] flags = []
found_in pattern (pair ∷ pairs) [] = []
found_in pattern (pair ∷ pairs) (flag ∷ flags) = (if matches pattern (last_component pair.0.now) then (pair.0.now, flag) ∷ [] else []) ++ found_in pattern pairs flags

-- the path with its flag, if its last component matches
abbrev pub found_if : List ℕ → List ℕ → Bool → List (List ℕ × Bool)
found_if pattern path flag = if matches pattern (last_component path) then (path, flag) ∷ [] else []

-- the part of a text after its last slash
abbrev pub last_part : List ℕ → List ℕ
last_part text = reverse (take (prefix_len (λ c. not (is_slash c)) (reverse text)) (reverse text))

-- the second list has, after the children of the first, the child of a path in the directory: the
-- path is the child or below it; with the child comes its sign
abbrev pub NotesChild : List (List ℕ) → List ℕ → List ℕ → List Child → List Child → Type 0
NotesChild marked directory path old new = map seen_child new ≡ map seen_child old ++ map (signed marked directory) (some_name (child_of directory path))

-- the children are the names in the directory, each with its sign
abbrev pub AreChildren : List Pair → List Bool → List ℕ → List Child → Type 0
AreChildren pairs flags directory found = map seen_child found ≡ map (signed (marked_in pairs flags) directory) (children (seen_paths pairs) directory)
