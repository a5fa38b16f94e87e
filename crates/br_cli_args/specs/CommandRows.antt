-- The commands and options of rows, by the definitions of clap.
use Rattle.std.specs.Prelude.{List, codes, fold, false, true}
use Rattle.clap.specs.Simple.{App, new_app, with_rule, with_subcommand}
use Rattle.clap.specs.Walk.{Rule, Text}
use Rattle.br_cli_args.specs.ClapCommands.{drives_rule, flag_rule, memory_rule, number_rule, value_rule, values_rule}
use Rattle.br_cli_args.specs.declared.command_row.CommandRow.{CommandRow}
use Rattle.br_cli_args.specs.declared.option_row.OptionRow.{OptionRow}
use Rattle.br_cli_args.specs.declared.option_row.ValueKind.{ValueKind}
use Rattle.br_cli_args.specs.declared.option_row.ValueKind.TheVariants.{Nothing, Value, Needed, OneDrive, FourDrives, Memory, Number, Several}

-- an option of this name, by what it takes
abbrev pub rule_by : ValueKind → Text → Rule
rule_by Nothing name = flag_rule name
rule_by Value name = value_rule name false
rule_by Needed name = value_rule name true
rule_by OneDrive name = drives_rule (codes "1") name
rule_by FourDrives name = drives_rule (codes "4") name
rule_by Memory name = memory_rule name
rule_by Number name = number_rule name
rule_by Several name = values_rule name

-- the option of a row
abbrev pub rule_of_row : OptionRow → Rule
rule_of_row row = rule_by row.takes row.name.now

-- a command with the options of rows after its own
abbrev pub with_rows : List OptionRow → App → App
with_rows rows app = fold (λ a row. with_rule a (rule_of_row row)) app rows

-- the command of a row
abbrev pub app_of_row : CommandRow → App
app_of_row row = with_rows row.choices.now (with_rows row.restoring.now (with_rows row.own.now (new_app row.name.now)))

-- a program with the commands of rows after its own
abbrev pub with_commands_of : List CommandRow → App → App
with_commands_of rows app = fold (λ a row. with_subcommand a (app_of_row row).top) app rows
