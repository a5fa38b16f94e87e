use Rattle.br_cli_serve.proofs.script_restores.hold.Goals as goal

pub returns-in-Ok-clause-over : goal.returns-in-Ok-clause-over
returns-in-Ok-clause-over g c = (c.args.text.now, c.in-Ok.ensures.begins)

pub returns-in-Err-clause-over : goal.returns-in-Err-clause-over
returns-in-Err-clause-over g c = (c.args.text.now, c.in-Err.ensures.begins)
