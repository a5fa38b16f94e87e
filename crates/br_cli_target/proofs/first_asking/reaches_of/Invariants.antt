use Rattle.std.proofs.Common.{◌≡◌, ◌++◌, drop, map}
use Rattle.br_cli_target.specs.FirstAsking.{reaches_from, shown}
use Rattle.br_cli_target.proofs.first_asking.reaches_of.Given as goal

-- the ends so far, and those of the ranges that are left
abbrev pub invariant-loop-range : goal.invariant-loop-range
invariant-loop-range l = l.reaches.items ++ reaches_from l.greatest (map shown (drop l.range-index l.asked)) ≡ reaches_from 0 (map shown l.asked)
