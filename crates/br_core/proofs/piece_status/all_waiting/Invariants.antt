use Rattle.std.proofs.Common.{◌≡◌, map, take}
use Rattle.br_core.specs.declared.piece_status.Status.TheVariants.{Waiting}
use Rattle.br_core.proofs.piece_status.all_waiting.Given as goal

-- the number of waiting pieces is that of the pieces so far
abbrev pub invariant-loop-piece : goal.invariant-loop-piece
invariant-loop-piece l = l.statuses.items ≡ map (λ _. Waiting) (take l._piece-index l.pieces)
