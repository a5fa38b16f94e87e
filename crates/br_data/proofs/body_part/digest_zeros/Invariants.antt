use Rattle.std.proofs.Common.{◌≤◌, ◌-◌, ◌++◌, ℕ, List, replicate}
use Rattle.md5.specs.Md5.{Holds}
use Rattle.br_data.proofs.body_part.digest_zeros.Given as goal

-- the zeros that are not left were digested
abbrev pub invariant-loop-left : goal.invariant-loop-left
invariant-loop-left l = (l.left ≤ l.count) × ((m : List ℕ) → Holds l.initial.hasher m → Holds l.hasher (m ++ replicate (l.count - l.left) 0))

abbrev pub decreases-loop-left : goal.decreases-loop-left
decreases-loop-left l = l.left
