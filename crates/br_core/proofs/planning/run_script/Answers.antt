use Rattle.std.proofs.Common.{◌≤◌, List, length, map, ap, ◌∙◌, rules}
use Rattle.std.proofs.lemmas.List.{take_all}
use Rattle.br_mark.specs.Said.{said}
use Rattle.br_mark.specs.declared.command.Command.{Command}
use Rattle.br_core.specs.Planning.{after_script}
use Rattle.br_core.proofs.ScriptLaws.{script_more, script_none}
use Rattle.br_core.proofs.planning.run_script.Goals as goal

pub loop-command-init : goal.loop-command-init
loop-command-init c = script_none c.args.console.now

pub loop-command-preserved : goal.loop-command-preserved
loop-command-preserved c =
    script_more c.args.console.now c.loop-command.console c.run_command.new.console c.args.script.now c.loop-command.command-index c.command-item.result c.loop-command-test.true c.command-item.is
    c.loop-command.invariant c.in_ok-run_command.ensures

pub returns : goal.returns
returns c =
    let i = c.loop-command.command-index in
    let script = c.args.script.now in
    let end : length script ≤ i = search rules in
    c.loop-command.invariant ∙ ap (λ (cs : List Command). after_script c.args.console.now (map said cs)) (take_all i script end)
