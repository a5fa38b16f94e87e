use Rattle.std.proofs.Common.{◌∙◌, ap}
use Rattle.std.proofs.lemmas.Result.{IfOk-weaker}
use Rattle.clap.specs.Simple.{app_of_fields}
use Rattle.clap.specs.declared.builder.command.Command.TheViews.{out-Command}
use Rattle.br_cli_args.specs.ClapCommands.{program_app, with_all_commands}
use Rattle.br_cli_args.proofs.AppLaws.{of_version, with_version}
use Rattle.br_cli_args.proofs.command_table.program.Goals as goal

pub returns : goal.returns
unfolding program_app
returns c =
    let bare =
    of_version (out-Command c.about.result) (out-Command c.version-program.result) _ c.version-program.ensures
    ∙ (ap with_version (ap app_of_fields c.about.ensures ∙ c.new.ensures.app)) in
    IfOk-weaker c.with_table.result _ _ (λ last is. is ∙ ap with_all_commands bare) c.with_table.ensures
