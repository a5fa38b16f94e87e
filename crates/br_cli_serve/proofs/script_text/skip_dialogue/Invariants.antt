use Rattle.std.proofs.Common.{◌-◌, ◌^◌, ◌≤◌}
use Rattle.br_cli_serve.proofs.script_text.skip_dialogue.Given as goal

abbrev pub invariant-loop-line : goal.invariant-loop-line
invariant-loop-line g l = l.initial.lines.turns ≤ l.lines.turns

-- the turns that are left
abbrev pub decreases-loop-line : goal.decreases-loop-line
decreases-loop-line g l = 2 ^ 40 - l.lines.turns
