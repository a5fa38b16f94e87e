use Rattle.std.proofs.Common.{◌≡◌, ◌∷◌, ◌++◌, take, flat_map}
use Rattle.br_model.specs.Number.{write_number}
use Rattle.br_attr.proofs.stat.push_numbers.Given as goal

abbrev pub invariant-loop-number : goal.invariant-loop-number
invariant-loop-number l = l.text.items ≡ l.initial.text.items ++ flat_map (λ n. 32 ∷ write_number n) (take l.number-index l.numbers)
