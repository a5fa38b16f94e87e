use Rattle.std.proofs.Common.{◌≡◌, take, map, Ok, Bor}
use Rattle.sqlite.specs.Order.{Row}
use Rattle.br_catalog_rows.specs.Decode.{read_span}
use Rattle.br_catalog_rows.specs.Load.{read_all}
use Rattle.br_catalog_rows.proofs.load.spans_of.Given as goal

-- the rows so far are read
abbrev pub invariant-loop-row : goal.invariant-loop-row
invariant-loop-row l = read_all read_span (take l.row-index (map (λ (b : Bor Row). b.now) l.rows)) ≡ Ok l.spans.items
