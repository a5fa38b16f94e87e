use Rattle.std.proofs.Common.{◌∙◌, ◌||◌, ap, ap₂, sym, arith}
use Rattle.std.proofs.lemmas.List.Sums.{fold_more}
use Rattle.clap.specs.Simple.{App, with_subcommand}
use Rattle.br_cli_args.specs.CommandRows.{app_of_row}
use Rattle.br_cli_args.proofs.command_row.with_commands.Goals as goal

pub loop-row-preserved : goal.loop-row-preserved
loop-row-preserved c = record {
  app = c.in_ok-longer.ensures.shape c.in_ok-command.ensures.local
      ∙ ap₂ with_subcommand c.loop-row.invariant.app (ap (λ (a : App). a.top) c.in_ok-command.ensures.app)
      ∙ sym (fold_more (λ a row. with_subcommand a (app_of_row row).top) _ c.args.rows.now c.loop-row.row-index _ (omega (arith, c.loop-row-test.true)));
  local = c.in_ok-longer.ensures.globals ∙ ap₂ ◌||◌ c.loop-row.invariant.local c.in_ok-command.ensures.local;
}
