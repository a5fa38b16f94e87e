-- From a text to its command, step by step.
use Rattle.std.proofs.Common.{◌≡◌, ℕ, List, [], Ok, Err, refl}
use Rattle.sqlite_ast.specs.declared.Statement.TheVariants as written
use Rattle.sqlite_syntax.specs.declared.statement.Parsed.{Parsed}
use Rattle.sqlite.specs.Schema.{Schema}
use Rattle.sqlite_schema.specs.declared.command.Command.{Command}
use Rattle.sqlite_schema.specs.declared.command.Returning.{Returning}
use Rattle.sqlite_resolve.specs.Lowering.{Checked}
use Rattle.sqlite_resolve.specs.Compile.{compiled, first, planned, with_command}

abbrev pub pick : Checked Parsed → Parsed
pick (Ok p) = p
pick (Err e) = record { statement = written.Empty; names = []; formats = []; start = 0; end = 0; tail = 0 }

pub compiled_ok : (schema : Schema) (text : List ℕ) (p : Parsed) (plan : List (List ℕ) × (Command × Rattle.std.specs.Prelude.Option Returning)) → first text ≡ Ok p → planned schema p ≡ Ok plan → compiled schema text ≡ Ok (with_command p plan)
unfolding compiled
compiled_ok schema text p plan one two = rw (one, two) refl
