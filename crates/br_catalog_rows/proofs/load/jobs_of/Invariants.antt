use Rattle.std.proofs.Common.{◌≡◌, take, Ok}
use Rattle.br_catalog_rows.specs.Decode.{read_job}
use Rattle.br_catalog_rows.specs.Load.{read_all}
use Rattle.br_catalog_rows.proofs.load.jobs_of.Given as goal

-- the rows so far are read
abbrev pub invariant-loop-row : goal.invariant-loop-row
invariant-loop-row l = read_all read_job (take l.row-index l.rows) ≡ Ok l.jobs.items
