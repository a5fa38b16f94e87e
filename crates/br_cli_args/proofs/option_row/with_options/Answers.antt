use Rattle.std.proofs.Common.{◌∙◌, ◌||◌, ap₂, sym, arith}
use Rattle.std.proofs.lemmas.List.Sums.{fold_more}
use Rattle.clap.specs.Simple.{with_rule}
use Rattle.br_cli_args.specs.CommandRows.{rule_of_row}
use Rattle.br_cli_args.proofs.option_row.with_options.Goals as goal

pub loop-row-preserved : goal.loop-row-preserved
loop-row-preserved c = record {
  app = c.in_ok-longer.ensures.shape c.option_of.ensures.local
      ∙ ap₂ with_rule c.loop-row.invariant.app c.option_of.ensures.rule
      ∙ sym (fold_more (λ a row. with_rule a (rule_of_row row)) _ c.args.rows.now c.loop-row.row-index _ (omega (arith, c.loop-row-test.true)));
  local = c.in_ok-longer.ensures.globals ∙ ap₂ ◌||◌ c.loop-row.invariant.local c.option_of.ensures.local;
}
