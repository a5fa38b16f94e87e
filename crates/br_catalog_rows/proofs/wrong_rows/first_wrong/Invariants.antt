use Rattle.std.proofs.Common.{◌≡◌, drop}
use Rattle.br_catalog_rows.specs.Wrong.{first_wrong}
use Rattle.br_catalog_rows.proofs.wrong_rows.first_wrong.Given as goal

-- the first wrong row is that of the rows that are left
abbrev pub invariant-loop-at : goal.invariant-loop-at
invariant-loop-at l = first_wrong l.columns 0 l.rows ≡ first_wrong l.columns l.at (drop l.at l.rows)
