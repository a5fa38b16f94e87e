use Rattle.std.proofs.Common.{◌≡◌, true, drop}
use Rattle.sqlite_rules.specs.Lists.{Has}
use Rattle.sqlite_schema.specs.Names.{same_name}
use Rattle.sqlite_value.specs.Order.{Row, column, bytes}
use Rattle.sqlite.specs.Opening.{Binds}
use Rattle.br_catalog_files.proofs.raw_store.is_bound.Given as goal

abbrev pub invariant-loop-other : goal.invariant-loop-other
invariant-loop-other l = (r : Row) → Has l.rows r → Binds r → same_name (bytes (column l.table 2)) (bytes (column r 3)) ≡ true → Has (drop l.other-index l.rows) r
