use Rattle.std.proofs.Common.{◌≡◌, ◌++◌, drop}
use Rattle.br_pool.specs.Slots.{empties}
use Rattle.br_pool.proofs.slots.left_of.Given as goal

-- the numbers so far, and those of the slots that are left
abbrev pub invariant-loop-number : goal.invariant-loop-number
invariant-loop-number l = l.left.items ++ empties l.number (drop l.number l.slots) ≡ empties 0 l.slots
