-- Noted paths as two sets: of files, and of the folders above a path.
use Rattle.std.specs.Prelude.{◌≡◌, ℕ, ◌<◌, Bool, true, false, not, ◌&&◌, ◌||◌, ◌==◌, List, [], ◌∷◌, ◌++◌, take, length, slice_index, bytes_eq}
use Rattle.std.specs.List.{list_any, starts_with}
use Rattle.std.specs.BTreeSet.{BTreeSet, contains_by}
use Rattle.std.specs.Cmp.Lexicographic.{slice_cmp}
use Rattle.std.specs.Ordering.{nat_cmp}
use Rattle.br_model.specs.Name.{is_directory}
use Rattle.br_model.specs.Delivery.{in_the_way}
use Rattle.br_types.specs.declared.conflicts.Ways.{Ways}

-- a set has this path; `bytes` reads a key
abbrev pub has_path : {K : Type 0} → (K → List ℕ) → BTreeSet K → List ℕ → Bool
has_path bytes set path = contains_by (λ k. slice_cmp nat_cmp path (bytes k)) set

-- the second path is the first one, a slash and more
abbrev pub goes_on_behind : List ℕ → List ℕ → Bool
goes_on_behind a b = starts_with (λ x y. x == y) b (a ++ 47 ∷ [])

-- the second path is that of a file, and equal to the first
abbrev pub is_file : List ℕ → List ℕ → Bool
is_file a b = bytes_eq b a && not (is_directory b)

-- One set has the paths that are not directories, the other the folders above the paths.
pub record AreNoted (files : List ℕ → Bool) (folders : List ℕ → Bool) (paths : List (List ℕ)) : Type 0 where
  pub of_files : (path : List ℕ) → files path ≡ list_any (is_file path) paths
  pub of_folders : (path : List ℕ) → folders path ≡ list_any (goes_on_behind path) paths

-- the same for the two sets
abbrev pub Noted : Ways → List (List ℕ) → Type 0
Noted ways paths = AreNoted (has_path (λ k. k.now) ways.files) (has_path (λ k. k.now) ways.folders) paths

-- no path in the set is followed in this path by a slash
abbrev pub HasNoFront : (List ℕ → Bool) → List ℕ → Type 0
HasNoFront files path = (i : ℕ) → i < length path → slice_index path i ≡ 47 → files (take i path) ≡ false

-- a path in the set is followed in this path by a slash
abbrev pub HasFront : (List ℕ → Bool) → List ℕ → Type 0
HasFront files path = (i : ℕ) × (i < length path) × (slice_index path i ≡ 47) × (files (take i path) ≡ true)

-- these paths were added to a set
abbrev pub AddsPaths : (List ℕ → Bool) → (List ℕ → Bool) → (List ℕ → Bool) → Type 0
AddsPaths added before after = (q : List ℕ) → after q ≡ (added q || before q)

-- whichever paths are noted, the path is free if it conflicts with none of them
abbrev pub IsFreeIn : Ways → List ℕ → Bool → Type 0
IsFreeIn ways path free = (paths : List (List ℕ)) → Noted ways paths → free ≡ not (list_any (in_the_way path) paths)

-- whichever paths were noted, the path is noted, too
abbrev pub Notes : Ways → Ways → List ℕ → Type 0
Notes before after path = (paths : List (List ℕ)) → Noted before paths → Noted after (path ∷ paths)
