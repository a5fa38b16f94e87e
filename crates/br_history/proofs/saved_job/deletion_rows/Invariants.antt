use Rattle.std.proofs.Common.{◌≡◌, map, take}
use Rattle.br_model.specs.Session.{deletion_row}
use Rattle.br_history.proofs.saved_job.deletion_rows.Given as goal

-- the rows of the paths so far
abbrev pub invariant-loop-path : goal.invariant-loop-path
invariant-loop-path l = l.rows.items ≡ map deletion_row (take l.path-index l.deleted)
