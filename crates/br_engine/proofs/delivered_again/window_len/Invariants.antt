use Rattle.std.proofs.Common.{◌≡◌}
use Rattle.br_engine.proofs.delivered_again.window_len.Given as goal

-- each outcome so far is counted
abbrev pub invariant-loop-outcome : goal.invariant-loop-outcome
invariant-loop-outcome l = l.count ≡ l.outcome-index
