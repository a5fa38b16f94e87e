-- Runs of paths with a common beginning, and flags of paths.
use Rattle.std.specs.Prelude.{◌≡◌, ℕ, ◌+◌, ◌-◌, ◌≤◌, ◌<◌, Bool, true, false, not, ◌&&◌, ◌||◌, if◌then◌else◌, List, [], ◌∷◌, ◌++◌, length, map, take, drop, bytes_eq, Option, Some, None}
use Rattle.std.specs.Borrow.{Bor}
use Rattle.std.specs.List.{AllByRecursion, list_any, prefix_len}
use Rattle.std.specs.Cmp.Lexicographic.{slice_cmp}
use Rattle.std.specs.Ordering.{nat_cmp}
use Rattle.std.specs.declared.cmp.Ordering.TheVariants.{Less}
use Rattle.br_model.specs.Name.{is_slash, is_directory}
use Rattle.br_model.specs.Console.{begins_with, is_below, child_of, children, matches, bare}
use Rattle.br_model.specs.Text.{is_empty}
use Rattle.br_view.specs.declared.entry.Entry.{Entry}
use Rattle.br_tree.specs.Seen.{flagged}

-- a path with its entry
abbrev pub Pair : Type 0
Pair = Bor (List ℕ) × Entry

-- the paths of pairs
abbrev pub seen_paths : List Pair → List (List ℕ)
seen_paths pairs = map (λ (p : Pair). p.0.now) pairs

-- a text up to and including its first slash
abbrev pub first_part : List ℕ → List ℕ
first_part text = take (prefix_len (λ c. not (is_slash c)) text + 1) text

-- all of some paths pass a test, or none does
abbrev pub AllPassing : (List ℕ → Bool) → List (List ℕ) → Type 0
AllPassing test paths = AllByRecursion (λ path. test path ≡ true) paths

abbrev pub NonePassing : (List ℕ → Bool) → List (List ℕ) → Type 0
NonePassing test paths = AllByRecursion (λ path. test path ≡ false) paths

-- each path is less than all paths after it
abbrev pub IsRising : List (List ℕ) → Type 0
IsRising [] = Unit {0}
IsRising (path ∷ paths) = AllByRecursion (λ later. slice_cmp nat_cmp path later ≡ Less) paths × IsRising paths

-- the paths of pairs ascend
abbrev pub AreSorted : List Pair → Type 0
AreSorted pairs = IsRising (seen_paths pairs)

-- the paths of pairs that are flagged
abbrev pub marked_in : List Pair → List Bool → List (List ℕ)
marked_in pairs flags = flagged (seen_paths pairs) flags

-- no marked path begins with the text
abbrev pub NoneBegins : List (List ℕ) → List ℕ → Type 0
NoneBegins marked text = list_any (λ path. begins_with path text) marked ≡ false

-- the paths from a first place to a last one pass a test, and no other does
pub record IsRun (test : List ℕ → Bool) (paths : List (List ℕ)) (first last : ℕ) : Type 0 where
  pub ordered : first ≤ last
  pub bound : last ≤ length paths
  pub before : NonePassing test (take first paths)
  pub within : AllPassing test (take (last - first) (drop first paths))
  pub after : NonePassing test (drop last paths)

-- the first paths pass a test, and the others up to a place do not
pub record IsStep (test : List ℕ → Bool) (paths : List (List ℕ)) (reach len : ℕ) : Type 0 where
  pub some : 0 < len
  pub ordered : reach ≤ len
  pub bound : len ≤ length paths
  pub within : AllPassing test (take reach paths)
  pub after : NonePassing test (drop reach (take len paths))

-- a name, if it is not empty
abbrev pub some_name : List ℕ → List (List ℕ)
some_name name = if is_empty name then [] else name ∷ []

-- the first paths belong to one child, to which no later path belongs
pub record IsFirstChild (directory : List ℕ) (paths : List (List ℕ)) (path : List ℕ) (len : ℕ) : Type 0 where
  pub some : 0 < len
  pub bound : len ≤ length paths
  pub begins : begins_with path directory ≡ true
  pub names : children paths directory ≡ some_name (child_of directory path) ++ children (drop len paths) directory

-- whether the path is that of a directory that is in the directory
abbrev pub is_own : List ℕ → List ℕ → Bool
is_own directory path = is_directory path && bytes_eq path (directory ++ child_of directory path)

-- whether a path is meant, if it is that of a child or below one: the child matches, and if `deep`
-- is false, the path is a directory's own
abbrev pub picks : Bool → List ℕ → List ℕ → List ℕ → Bool
picks deep directory pattern path = (deep || is_own directory path) && matches pattern (bare (child_of directory path))

-- the same for any path
abbrev pub is_picked : Bool → List ℕ → List ℕ → List ℕ → Bool
is_picked deep directory pattern path = is_below directory path && picks deep directory pattern path

-- the number of meant paths of a child, from its first path on: all, or only its own path if that
-- is the first
abbrev pub reach : Bool → List ℕ → List ℕ → List ℕ → List ℕ → ℕ → ℕ
reach deep directory pattern name path len =
    if not (is_empty name) && matches pattern (bare name) then (if deep then len else (if is_own directory path then 1 else 0)) else 0

-- the flags after those of the paths that pass were set to a value
abbrev pub set_where : (List ℕ → Bool) → Bool → List (List ℕ) → List Bool → List Bool
set_where test value [] flags = flags
set_where test value (path ∷ paths) [] = []
set_where test value (path ∷ paths) (flag ∷ flags) = (if test path then value else flag) ∷ set_where test value paths flags

-- whether two flags differ
abbrev pub differs : Bool → Bool → Bool
differs true flag = not flag
differs false flag = flag

-- the number of flags that this changes
abbrev pub changed : (List ℕ → Bool) → Bool → List (List ℕ) → List Bool → ℕ
changed test value [] flags = 0
changed test value (path ∷ paths) [] = 0
changed test value (path ∷ paths) (flag ∷ flags) = (if test path && differs value flag then 1 else 0) + changed test value paths flags

-- the number of flags that change, if a path passes
abbrev pub changes : (List ℕ → Bool) → Bool → List (List ℕ) → List Bool → Option ℕ
changes test value paths flags = if list_any test paths then Some (changed test value paths flags) else None
