-- The commands and options of the program, by the definitions of clap.
use Rattle.std.specs.Prelude.{List, [], ◌∷◌, Bool, codes, fold, Some, false, true}
use Rattle.clap.specs.Simple.{App, new_app, new_rule, on_top, with_rule, with_subcommand}
use Rattle.clap.specs.Walk.{Rule, Text}
use Rattle.clap.specs.declared.builder.action.ArgAction.TheVariants.{Append, Set, SetTrue}
use Rattle.clap.specs.declared.builder.value_parser.ValueParser.TheVariants.{NonEmptyString, Unsigned}

-- an option `--name VALUE`; its value may not be empty, and the option may be required
abbrev pub value_rule : Text → Bool → Rule
value_rule name is_required = record (new_rule name) {
  long = Some name;
  action = Some Set;
  value_names = 1;
  parser = Some NonEmptyString;
  required = is_required;
}

-- an option `--name` without a value
abbrev pub flag_rule : Text → Rule
flag_rule name = record (new_rule name) { long = Some name; action = Some SetTrue }

-- an option `--name N`, a number from 1 to 16, which is the default if the option is omitted
abbrev pub drives_rule : Text → Text → Rule
drives_rule default name = record (value_rule name false) { parser = Some (Unsigned 1 16); defaults = default ∷ [] }

-- an option `--name SIZE`, which is 1 GiB if the option is omitted
abbrev pub memory_rule : Text → Rule
memory_rule name = record (value_rule name false) { defaults = codes "1G" ∷ [] }

-- a number after the command, which may be omitted
abbrev pub number_rule : Text → Rule
number_rule name = record (new_rule name) { action = Some Set; value_names = 1; parser = Some (Unsigned 0 4294967295) }

-- any number of values after the command, none of which may be empty
abbrev pub values_rule : Text → Rule
values_rule name = record (new_rule name) { action = Some Append; value_names = 1; parser = Some NonEmptyString }

-- a command of this name with these options
abbrev pub command_with : Text → List Rule → App
command_with name rules = fold with_rule (new_app name) rules

-- `--into DIR`, `--tar FILE`, `--drives N`, `--memory SIZE`, `--quiet` and `--log FILE`, all
-- optional
abbrev pub with_restoring : App → App
with_restoring app =
    fold with_rule app
    (value_rule (codes "into") false ∷
    value_rule (codes "tar") false ∷
    drives_rule (codes "1") (codes "drives") ∷
    memory_rule (codes "memory") ∷
    flag_rule (codes "sync") ∷
    flag_rule (codes "quiet") ∷
    value_rule (codes "log") false ∷
    [])

-- `--complete`, `--keep-going` and `--resume`, all optional
abbrev pub with_session_choices : App → App
with_session_choices app = fold with_rule app (flag_rule (codes "complete") ∷ flag_rule (codes "keep-going") ∷ flag_rule (codes "resume") ∷ [])

-- `--newest` and these, all optional
abbrev pub with_choices : App → App
with_choices app = with_session_choices (with_rule app (flag_rule (codes "newest")))

-- `restore --volumes DIR`, the optional patterns, bootstrap, catalogue, client, file set and moment, and
-- the optional `--into DIR`, `--tar FILE`, `--drives N`, which is 4 if it is omitted, `--memory SIZE`,
-- `--sync`, `--quiet`, `--log FILE` and `--manifest FILE`
unfoldable pub restore_app : App
restore_app =
    command_with (codes "restore")
    (values_rule (codes "pattern") ∷
    value_rule (codes "bsr") false ∷
    value_rule (codes "db") false ∷
    value_rule (codes "client") false ∷
    value_rule (codes "fileset") false ∷
    value_rule (codes "before") false ∷
    value_rule (codes "volumes") true ∷
    value_rule (codes "into") false ∷
    value_rule (codes "tar") false ∷
    drives_rule (codes "4") (codes "drives") ∷
    memory_rule (codes "memory") ∷
    flag_rule (codes "sync") ∷
    flag_rule (codes "quiet") ∷
    value_rule (codes "log") false ∷
    value_rule (codes "manifest") false ∷
    [])

-- `extract --bsr FILE --volumes DIR`, and the optional ones
unfoldable pub extract_app : App
extract_app =
    with_choices (with_restoring (command_with (codes "extract") (value_rule (codes "bsr") true ∷ value_rule (codes "volumes") true ∷ [])))

-- `console --db FILE --volumes DIR --client NAME --fileset NAME --before MOMENT`, and the optional
-- ones
unfoldable pub console_app : App
console_app =
    with_session_choices (with_restoring
    (command_with (codes "console")
    (value_rule (codes "db") true ∷
    value_rule (codes "volumes") true ∷
    value_rule (codes "client") true ∷
    value_rule (codes "fileset") true ∷
    value_rule (codes "before") true ∷
    flag_rule (codes "verify-catalogue") ∷
    value_rule (codes "manifest") false ∷
    [])))

-- `check --bsr FILE --volumes DIR` with the optional `--checksums` and `--memory SIZE`
unfoldable pub check_app : App
check_app =
    command_with (codes "check")
    (value_rule (codes "bsr") true ∷
    value_rule (codes "volumes") true ∷
    flag_rule (codes "checksums") ∷
    memory_rule (codes "memory") ∷
    [])

-- `jobs --db FILE` with the optional `--client NAME`, `--fileset NAME`, `--before MOMENT`,
-- `--verify-catalogue` and `--local`
unfoldable pub jobs_app : App
jobs_app =
    command_with (codes "jobs")
    (value_rule (codes "db") true ∷
    value_rule (codes "client") false ∷
    value_rule (codes "fileset") false ∷
    value_rule (codes "before") false ∷
    flag_rule (codes "verify-catalogue") ∷
    flag_rule (codes "local") ∷
    [])

-- `explain [N]`
unfoldable pub explain_app : App
explain_app = command_with (codes "explain") (number_rule (codes "number") ∷ [])

-- `serve` with the optional `--db FILE`, `--volumes DIR` and `--memory SIZE`
unfoldable pub serve_app : App
serve_app =
    command_with (codes "serve") (value_rule (codes "db") false ∷ value_rule (codes "volumes") false ∷ memory_rule (codes "memory") ∷ [])

-- `migrate --db FILE`
unfoldable pub migrate_app : App
migrate_app = command_with (codes "migrate") (value_rule (codes "db") true ∷ [])

-- the program with its version, without a command
abbrev pub bare_app : App
bare_app = on_top (λ s. record s { has_version = true }) (new_app (codes "brestore"))

-- a program with the commands of this one after its own
abbrev pub with_all_commands : App → App
with_all_commands app =
    fold (λ a (command : App). with_subcommand a command.top) app
    (restore_app ∷ extract_app ∷ console_app ∷ check_app ∷ jobs_app ∷ explain_app ∷ serve_app ∷ migrate_app ∷ [])

-- the program with its version and its commands
unfoldable pub program_app : App
program_app = with_all_commands bare_app
