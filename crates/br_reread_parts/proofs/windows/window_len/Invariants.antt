use Rattle.std.proofs.Common.{length, ◌-◌, ◌≤◌, ◌<◌}
use Rattle.br_reread_parts.proofs.windows.window_len.Given as goal

abbrev pub invariant-loop-count : goal.invariant-loop-count
invariant-loop-count l = (0 < l.count) × (l.count ≤ length l.hits)

abbrev pub decreases-loop-count : goal.decreases-loop-count
decreases-loop-count l = length l.hits - l.count
