use Rattle.std.proofs.Common.{◌≡◌, take}
use Rattle.std.specs.FinMap as finite
use Rattle.br_join.specs.Pieces.{as_map, opens}
use Rattle.br_join.proofs.joiner.opened.Given as goal

-- the pieces so far
abbrev pub invariant-loop-piece : goal.invariant-loop-piece
invariant-loop-piece l = as_map l.numbers ≡ finite.from_entries (opens (take l.piece-index l.pieces))
