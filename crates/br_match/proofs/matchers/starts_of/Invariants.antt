use Rattle.std.proofs.Common.{◌≡◌, ◌++◌, List, ℕ}
use Rattle.std.specs.Prelude.{reverse}
use Rattle.std.specs.Slice.Iter.{iter_rest}
use Rattle.br_model.specs.Bootstrap.{Group}
use Rattle.br_match.proofs.NearLaws.{StartsSoFar}
use Rattle.br_match.proofs.matchers.starts_of.Given as goal

-- the addresses of the groups after those that are left, the last group's first
abbrev pub invariant-loop-group : goal.invariant-loop-group
invariant-loop-group l = (done : List (ℕ × Group)) × StartsSoFar done l.least (reverse l.starts.items) × (iter_rest l.group-iterator.iter ++ done ≡ l.groups)
