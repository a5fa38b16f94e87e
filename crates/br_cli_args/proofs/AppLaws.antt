-- The commands and options of the program, as clap takes them.
use Rattle.std.proofs.Common.{◌≡◌, ap, refl, true}
use Rattle.std.specs.Prelude.{Some}
use Rattle.std.specs.Borrow.{Bor}
use Rattle.clap.specs.Faults.{is_simple_and_free}
use Rattle.clap.specs.Simple.{App, app_of_fields, is_simple, on_top}
use Rattle.clap.specs.Walk.{Text}
use Rattle.clap.specs.declared.builder.command.Command.{Command}
use Rattle.clap.specs.declared.builder.command.Command.TheOpen.{Command-F}
use Rattle.clap.proofs.OnLiterals.{clap_on_literals}
use Rattle.br_cli_args.specs.ClapCommands.{check_app, console_app, explain_app, extract_app, jobs_app, migrate_app, program_app, restore_app, serve_app}

pub program_is_simple : is_simple program_app ≡ true
unfolding program_app check_app jobs_app explain_app serve_app migrate_app extract_app restore_app console_app clap_on_literals
program_is_simple = refl

pub program_is_free : is_simple_and_free program_app ≡ true
unfolding program_app check_app jobs_app explain_app serve_app migrate_app extract_app restore_app console_app clap_on_literals
program_is_free = refl

-- a command with a version
abbrev pub with_version : App → App
with_version = on_top (λ s. record s { has_version = true })

pub of_version : (f g : Command-F Command) (version : Bor Text) → g ≡ record f { version = Some version } → app_of_fields g ≡ with_version (app_of_fields f)
of_version f g version is = ap app_of_fields is
