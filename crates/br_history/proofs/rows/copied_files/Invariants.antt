use Rattle.std.proofs.Common.{◌≡◌, take}
use Rattle.br_history.proofs.rows.copied_files.Given as goal

-- the rows so far
abbrev pub invariant-loop-row : goal.invariant-loop-row
invariant-loop-row l = l.copy.items ≡ take l.row-index l.files
