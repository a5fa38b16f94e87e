use Rattle.std.proofs.Common.{◌≡◌, ◌++◌, drop, map}
use Rattle.br_piece.specs.Missing.{in_group}
use Rattle.br_piece.proofs.lacking.push_runs.Given as goal

-- the runs so far, and those that are left
abbrev pub invariant-loop-run : goal.invariant-loop-run
invariant-loop-run l = l.found.items ++ map (in_group l.group) (drop l.run-index l.runs) ≡ l.initial.found.items ++ map (in_group l.group) l.runs
