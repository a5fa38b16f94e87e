use Rattle.std.proofs.Common.{◌≡◌, Bool, Some, None, Option, IsTrue}
use Rattle.sqlite_catalog.specs.Listing.{IsReadable}
use Rattle.sqlite_value.specs.Order.{Row}
use Rattle.sqlite_catalog.specs.Listing.{ReadsTable}
use Rattle.std.proofs.Common.{MatchOption, is_some}
use Rattle.sqlite_schema.specs.declared.schema.Table.{Table as TableOf}
use Rattle.br_catalog_files.proofs.raw_store.is_readable.Goals as goal

found : (row : Row) (o : Option TableOf) (b : Bool) → b ≡ is_some o → MatchOption o ((t : TableOf) → ¬ ReadsTable row t) (ReadsTable row) → (IsTrue b → IsReadable row) × (IsReadable row → IsTrue b)
found row None b is h = (λ x. absurd (cc), λ x. absurd (h x.0 x.1))
found row (Some t) b is h = (λ _. (t, h), λ _. is)

pub returns : goal.returns
returns c =
    found c.args.row.now c.in_ok-table.table c.is_some.result c.is_some.ensures c.in_ok-table.ensures
