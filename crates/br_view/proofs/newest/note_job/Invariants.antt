use Rattle.std.proofs.Common.{map, take}
use Rattle.br_view.specs.Newest.{Adds}
use Rattle.br_view.proofs.newest.note_job.Given as goal

-- the rows so far are noted
abbrev pub invariant-loop-row : goal.invariant-loop-row
invariant-loop-row l = Adds l.initial.kept (map (λ f. (l.job, f)) (take l.row-index l.row-items)) l.kept
