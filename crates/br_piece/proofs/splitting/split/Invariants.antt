use Rattle.std.proofs.Common.{◌≡◌, ◌≤◌, length, take, List, ℕ}
use Rattle.br_model.specs.Meaning.{pieces_of}
use Rattle.br_piece.specs.Piece.{place_among, place_in}
use Rattle.br_piece.proofs.splitting.split.Given as goal

-- the pieces of the groups so far, and the place of the piece of each volume
abbrev pub invariant-loop-group : goal.invariant-loop-group
invariant-loop-group l = (l.pieces.items ≡ pieces_of (take l.group-index l.group-items)) × (length l.pieces.items ≤ l.group-index) × (l.number ≡ l.group-index) × ((name : List ℕ) → place_in l.places name ≡ place_among l.pieces.items name)
