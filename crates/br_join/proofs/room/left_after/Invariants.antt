use Rattle.std.proofs.Common.{◌≡◌, ◌+◌, take}
use Rattle.br_join.specs.Room.{data_in}
use Rattle.br_join.proofs.room.left_after.Given as goal

-- the hits so far took what is no longer left
abbrev pub invariant-loop-hit : goal.invariant-loop-hit
invariant-loop-hit l = l.rest + data_in (take l.hit-index l.hits) ≡ l.left
