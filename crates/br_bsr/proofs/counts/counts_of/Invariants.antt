use Rattle.std.proofs.Common.{◌≡◌, length, fold}
use Rattle.std.specs.Str.Lines.{lines}
use Rattle.br_bsr.specs.Counts.{counts, with_line}
use Rattle.br_bsr.proofs.counts.counts_of.Given as goal

-- the counts so far, and what the lines that are left state
abbrev pub invariant-loop-rest : goal.invariant-loop-rest
invariant-loop-rest l = fold with_line l.found.items (lines l.rest) ≡ counts l.text

abbrev pub decreases-loop-rest : goal.decreases-loop-rest
decreases-loop-rest l = length l.rest
