-- A table of names as it is kept in memory.
use Rattle.std.specs.Prelude.{◌≡◌, List, map}
use Rattle.sqlite.specs.declared.types.Value.{Value}
use Rattle.sqlite.specs.declared.types.Value.TheVariants.{Int}
use Rattle.sqlite.specs.Order.{Row, column}
use Rattle.sqlite.specs.Tree.{rowid}
use Rattle.br_catalog_tables.specs.TreePlaces.{name_column}
use Rattle.br_catalog_files.specs.declared.old_names.NameTable.{NameTable}

-- the name of a row
abbrev pub name_of : Row → Value
name_of row = column row name_column

-- these are the numbers and the names of the rows
pub record AreNames (kept : NameTable) (rows : List Row) : Type 0 where
  pub ids : map rowid rows ≡ map Int kept.ids.items
  pub names : map name_of rows ≡ kept.names
