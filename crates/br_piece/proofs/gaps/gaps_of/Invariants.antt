use Rattle.std.proofs.Common.{◌≡◌, ◌++◌, drop}
use Rattle.br_piece.specs.Gaps.{gaps}
use Rattle.br_piece.proofs.gaps.gaps_of.Given as goal

-- the gaps so far, and those that are left
abbrev pub invariant-loop-number : goal.invariant-loop-number
invariant-loop-number l = l.runs.items ++ gaps l.next l.range-inside.high (drop l.number-index l.numbers) ≡ gaps l.range-inside.low l.range-inside.high l.numbers
