use Rattle.std.proofs.Common.{◌≡◌, take, false}
use Rattle.clap.specs.Words.{app_of}
use Rattle.clap.specs.declared.builder.command.Command.TheViews.{out-Command as fields_of}
use Rattle.br_cli_args.specs.CommandRows.{with_rows}
use Rattle.br_cli_args.proofs.option_row.with_options.Given as goal

-- the command has the options so far
abbrev pub invariant-loop-row : goal.invariant-loop-row
invariant-loop-row l = record {
  app : app_of l.longer ≡ with_rows (take l.row-index l.rows) (app_of l.fn.command);
  local : (fields_of l.longer).has_globals ≡ false;
}
