use Rattle.std.proofs.Common.{◌≡◌, take, false}
use Rattle.clap.specs.Words.{app_of}
use Rattle.clap.specs.declared.builder.command.Command.TheViews.{out-Command as fields_of}
use Rattle.br_cli_args.specs.CommandRows.{with_commands_of}
use Rattle.br_cli_args.proofs.command_row.with_commands.Given as goal

-- the program has the commands so far
abbrev pub invariant-loop-row : goal.invariant-loop-row
invariant-loop-row l = record {
  app : app_of l.longer ≡ with_commands_of (take l.row-index l.rows) (app_of l.fn.program);
  local : (fields_of l.longer).has_globals ≡ false;
}
