-- What callers see of a walk.
use Rattle.std.specs.Prelude.{ℕ, List, Option, Result}
use Rattle.br_model.specs.Meaning.{Piece}
use Rattle.br_model.specs.Volume.{Volume}
use Rattle.br_match.specs.declared.fault.PieceFault.{PieceFault}
use Rattle.br_match.specs.declared.hit.Batch.{Batch}
use Rattle.br_match.specs.declared.walk.Walk.{Walk}
use Rattle.br_match.specs.Walk.{AfterWalk, BlockGiven}

-- the piece whose volume is walked
abbrev pub piece_of : Walk → Piece
piece_of w = w.piece.now

-- the address of the block that the walk is before
abbrev pub address_of : Walk → ℕ
address_of w = w.addr

-- over the volumes that a drive may be taken to show: the walk gives the hits of its next block, or
-- is at its end
abbrev pub GivesBlock : Option (List Volume) → Option (List Volume) → Walk → Walk → Result (Option Batch) PieceFault → Type 0
GivesBlock earlier later before after result =
    AfterWalk earlier later (piece_of before) (address_of before) (BlockGiven (piece_of before) (address_of before) (address_of after) result)
