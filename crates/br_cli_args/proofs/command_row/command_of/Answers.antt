use Rattle.std.proofs.Common.{◌∙◌, ap}
use Rattle.std.proofs.lemmas.Result.{IfOk-weaker}
use Rattle.clap.specs.Simple.{app_of_fields}
use Rattle.br_cli_args.specs.CommandRows.{with_rows}
use Rattle.br_cli_args.proofs.command_row.command_of.Goals as goal

pub returns-clause-app : goal.returns-clause-app
returns-clause-app c =
    let row = c.args.row.now in
    IfOk-weaker c.with_options-3.result _ _
    (λ last is.
    is
    ∙ ap (with_rows row.choices.now)
    (c.in_ok-restoring.ensures.app
    ∙ ap (with_rows row.restoring.now) (c.in_ok-own.ensures.app ∙ ap (with_rows row.own.now) (ap app_of_fields c.about-command.ensures ∙ c.new.ensures.app))))
    c.with_options-3.ensures.app
