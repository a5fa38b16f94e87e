use Rattle.std.proofs.Common.{◌≡◌, ◌+◌, ◌≤◌}
use Rattle.br_model.specs.Number.{without_zeros, write_magnitude}
use Rattle.br_attr.specs.Digits.{last_digits}
use Rattle.br_attr.proofs.number64.first_place.Given as goal

abbrev pub invariant-loop-place : goal.invariant-loop-place
invariant-loop-place l = (l.place ≤ 10) × (without_zeros (last_digits l.magnitude (l.place + 1)) ≡ write_magnitude l.magnitude)

abbrev pub decreases-loop-place : goal.decreases-loop-place
decreases-loop-place l = l.place
