use Rattle.br_cli_args.specs.ClapCommands.{check_app, console_app, explain_app, extract_app, jobs_app, migrate_app, restore_app, serve_app}
use Rattle.br_cli_args.proofs.command_table.with_table.Goals as goal

pub returns : goal.returns
unfolding check_app jobs_app explain_app serve_app migrate_app extract_app restore_app console_app
returns c = c.with_commands.ensures.app
