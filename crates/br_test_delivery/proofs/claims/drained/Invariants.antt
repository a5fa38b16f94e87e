use Rattle.std.proofs.Common.{◌≡◌, ◌-◌, ◌+◌, length}
use Rattle.br_test_delivery.proofs.claims.drained.Given as goal

abbrev pub invariant-loop-number : goal.invariant-loop-number
invariant-loop-number l = (l.seat.claims ≡ l.initial.seat.claims) × (l.seat.limit ≡ l.initial.seat.limit)

abbrev pub decreases-loop-number : goal.decreases-loop-number
decreases-loop-number l = l.seat.limit + 1 - length l.seat.drawn
