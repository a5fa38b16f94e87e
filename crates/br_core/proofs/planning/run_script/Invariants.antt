use Rattle.std.proofs.Common.{◌≡◌, map, take}
use Rattle.br_mark.specs.Said.{said}
use Rattle.br_core.specs.Planning.{after_script}
use Rattle.br_core.proofs.planning.run_script.Given as goal

-- the console after the commands so far
abbrev pub invariant-loop-command : goal.invariant-loop-command
invariant-loop-command l = l.console ≡ after_script l.initial.console (map said (take l.command-index l.script))
