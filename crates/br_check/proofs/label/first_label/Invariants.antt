use Rattle.std.proofs.Common.{◌≡◌}
use Rattle.std.specs.Prelude.{find}
use Rattle.br_check.specs.Label.{is_label}
use Rattle.br_check.proofs.label.first_label.Given as goal

-- the label among all records is that among those that are left
abbrev pub invariant-loop-fragment : goal.invariant-loop-fragment
invariant-loop-fragment l = find is_label l.fn.fragments ≡ find is_label l.fragment-iterator
