use Rattle.std.proofs.Common.{◌≡◌, take}
use Rattle.br_join.specs.Joining.{closed_each}
use Rattle.br_pool.proofs.streaming.close_all.Given as goal

-- the pieces so far are closed
abbrev pub invariant-loop-piece : goal.invariant-loop-piece
invariant-loop-piece l = record {
  closed : l.joiner ≡ closed_each l.fn.joiner (take l.piece-index l.pieces);
}
