use Rattle.std.proofs.Common.{length, ◌-◌, ◌≤◌}
use Rattle.br_reread_files.proofs.sharing.first_with.Given as goal

abbrev pub invariant-loop-count : goal.invariant-loop-count
invariant-loop-count l = l.count ≤ length l.runs

abbrev pub decreases-loop-count : goal.decreases-loop-count
decreases-loop-count l = length l.runs - l.count
