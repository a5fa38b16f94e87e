use Rattle.std.proofs.Common.{◌-◌, ◌^◌, ◌≤◌}
use Rattle.br_cli_serve.proofs.script_input.InputLines.read.Given as goal

abbrev pub invariant-loop-part : goal.invariant-loop-part
invariant-loop-part g l = l.initial.self.turns ≤ l.self.turns

-- the turns that are left
abbrev pub decreases-loop-part : goal.decreases-loop-part
decreases-loop-part g l = 2 ^ 40 - l.self.turns
