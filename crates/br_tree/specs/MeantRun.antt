-- The run of paths in a directory that a pattern may mean.
use Rattle.std.specs.Prelude.{ℕ, ◌≤◌, ◌-◌, Bool, ◌||◌, ◌==◌, List, length, take, drop}
use Rattle.std.specs.List.{before_first}
use Rattle.br_model.specs.Console.{begins_with}
use Rattle.br_tree.specs.Walk.{is_picked, AllPassing, NonePassing}

-- whether a byte of a pattern matches other bytes, too
abbrev pub is_wildcard : ℕ → Bool
is_wildcard c = c == 42 || c == 63

-- a pattern up to its first * or ?
abbrev pub plain_front : List ℕ → List ℕ
plain_front pattern = before_first is_wildcard pattern

-- from the first place to the last one are paths in the directory, and the pattern means no others
pub record IsAround (directory pattern : List ℕ) (paths : List (List ℕ)) (first last : ℕ) : Type 0 where
  pub ordered : first ≤ last
  pub bound : last ≤ length paths
  pub before : (deep : Bool) → NonePassing (is_picked deep directory pattern) (take first paths)
  pub within : AllPassing (λ path. begins_with path directory) (take (last - first) (drop first paths))
  pub after : (deep : Bool) → NonePassing (is_picked deep directory pattern) (drop last paths)
