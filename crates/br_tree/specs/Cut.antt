-- Tests that the first paths of a list pass, and no later one.
use Rattle.std.specs.Prelude.{◌≡◌, ℕ, ◌≤◌, Bool, true, List, [], ◌∷◌, ◌++◌, length, take, drop, bytes_eq}
use Rattle.std.specs.List.{AllByRecursion}
use Rattle.std.specs.Cmp.Lexicographic.{slice_cmp}
use Rattle.std.specs.Ordering.{nat_cmp, is_lt}
use Rattle.br_model.specs.Console.{begins_with, child_of}
use Rattle.br_tree.specs.declared.cut.Test.{Test}
use Rattle.br_tree.specs.declared.cut.Test.TheVariants.{Before, Begins, BeforeIn, BeginsIn, OfChild}
use Rattle.br_tree.specs.Walk.{AllPassing, NonePassing}

-- whether a path passes
abbrev pub passes : Test → List ℕ → Bool
passes (Before text) path = is_lt (slice_cmp nat_cmp path text.now)
passes (Begins text) path = begins_with path text.now
passes (BeforeIn directory text) path = is_lt (slice_cmp nat_cmp path (directory.now ++ text.now))
passes (BeginsIn directory text) path = begins_with path (directory.now ++ text.now)
passes (OfChild directory name) path = bytes_eq (child_of directory.now path) name.now

-- if a path passes, so does each path before it
abbrev pub IsFalling : (List ℕ → Bool) → List (List ℕ) → Type 0
IsFalling test [] = Unit {0}
IsFalling test (path ∷ paths) = AllByRecursion (λ later. test later ≡ true → test path ≡ true) paths × IsFalling test paths

-- the paths before a place pass, and no other does
pub record IsCut (test : List ℕ → Bool) (paths : List (List ℕ)) (place : ℕ) : Type 0 where
  pub bound : place ≤ length paths
  pub before : AllPassing test (take place paths)
  pub after : NonePassing test (drop place paths)
