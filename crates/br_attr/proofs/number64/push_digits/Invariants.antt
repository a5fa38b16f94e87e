use Rattle.std.proofs.Common.{◌≡◌, ◌≤◌, ◌++◌}
use Rattle.br_attr.specs.Digits.{last_digits}
use Rattle.br_attr.proofs.number64.push_digits.Given as goal

abbrev pub invariant-loop-left : goal.invariant-loop-left
invariant-loop-left l = (l.left ≤ 11) × (l.text.items ++ last_digits l.magnitude l.left ≡ l.initial.text.items ++ last_digits l.magnitude l.count)

abbrev pub decreases-loop-left : goal.decreases-loop-left
decreases-loop-left l = l.left
