use Rattle.std.proofs.Common.{drop}
use Rattle.sqlite.specs.Opening.{IsOwnTable}
use Rattle.sqlite_rules.specs.Lists.{Has}
use Rattle.sqlite_value.specs.Order.{Row, column}
use Rattle.std.proofs.Common.{◌≡◌}
use Rattle.br_catalog_files.proofs.raw_store.has_own_table.Given as goal

abbrev pub invariant-loop-other : goal.invariant-loop-other
invariant-loop-other l = (r : Row) → Has l.rows r → column r 2 ≡ column l.row 3 → IsOwnTable l.rows r → Has (drop l.other-index l.rows) r
