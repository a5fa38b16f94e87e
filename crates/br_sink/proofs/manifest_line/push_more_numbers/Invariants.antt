use Rattle.std.proofs.Common.{◌≡◌, ◌∷◌, ◌++◌, take, flat_map}
use Rattle.br_model.specs.Text.{signed_decimal}
use Rattle.br_sink.proofs.manifest_line.push_more_numbers.Given as goal

abbrev pub invariant-loop-number : goal.invariant-loop-number
invariant-loop-number l = l.text.items ≡ l.initial.text.items ++ flat_map (λ n. 44 ∷ signed_decimal n) (take l.number-index l.numbers)
