-- Where the texts of a restore go.
use Rattle.std.specs.Prelude.{Option, Some, None}
use Rattle.br_cli_common.specs.declared.options.Marks.{Marks}
use Rattle.br_cli_common.specs.declared.options.Marks.TheVariants.{Lines, Patterns}
use Rattle.br_cli_common.specs.declared.options.Printed.{Printed}
use Rattle.br_cli_common.specs.declared.options.Printed.TheVariants.{Manifest, Words}
use Rattle.br_cli_common.specs.declared.options.Target.{Target}
use Rattle.br_cli_common.specs.declared.options.Target.TheVariants as target

-- the places that texts go to
pub data Place : Type 0 where
  -- standard output
  Output : Place
  -- standard error
  Errors : Place
  -- a file of their own
  OwnFile : Place
  -- nowhere: they are dropped
  Nowhere : Place

-- where what is printed goes: to standard error if a tar stream goes to standard output
abbrev pub printed_place : Target → Place
printed_place target.TarOutput = Errors
printed_place target.Nowhere = Output
printed_place (target.Folder folder) = Output
printed_place (target.TarFile file) = Output

-- where the manifest of a restore by a bootstrap goes
abbrev pub manifest_place : Printed → Target → Place
manifest_place Manifest target = printed_place target
manifest_place (Words (Some file)) target = OwnFile
manifest_place (Words None) target = Nowhere

-- where the answers to the marks of a session go: those to patterns are dropped
abbrev pub answers_place : Marks → Target → Place
answers_place Lines target = printed_place target
answers_place (Patterns patterns) target = Nowhere
