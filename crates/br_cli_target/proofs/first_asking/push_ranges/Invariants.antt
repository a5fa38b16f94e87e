use Rattle.std.proofs.Common.{◌≡◌, ◌++◌, take, map}
use Rattle.br_model.specs.Bootstrap.{Range}
use Rattle.br_cli_target.specs.FirstAsking.{shown}
use Rattle.br_cli_target.proofs.first_asking.push_ranges.Given as goal

abbrev pub invariant-loop-range : goal.invariant-loop-range
invariant-loop-range l = map shown l.asked.items ≡ map shown l.initial.asked.items ++ map (λ (r : Range). (r, l.group)) (take l.range-index l.ranges)
