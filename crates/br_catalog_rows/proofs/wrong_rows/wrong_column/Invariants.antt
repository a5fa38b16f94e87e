use Rattle.std.proofs.Common.{◌≡◌, drop}
use Rattle.br_catalog_rows.specs.Wrong.{wrong_in}
use Rattle.br_catalog_rows.proofs.wrong_rows.wrong_column.Given as goal

-- the first wrong column is that of the columns that are left
abbrev pub invariant-loop-column : goal.invariant-loop-column
invariant-loop-column l = wrong_in l.columns l.fn.row ≡ wrong_in (drop l.column-index l.columns) l.fn.row
