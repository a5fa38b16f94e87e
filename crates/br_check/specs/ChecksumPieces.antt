-- The lines about the checksums of the pieces of a bootstrap.
use Rattle.std.specs.Prelude.{◌≡◌, ◌⊎◌, ℕ, ◌<◌, List, ◌∷◌, ◌++◌, codes, decimal, Option, Some, None, ⊤}
use Rattle.br_model.specs.Meaning.{Piece}
use Rattle.br_model.specs.Text.{line, escaped}
use Rattle.br_model.specs.Volume.{LaidBlock, Volume}
use Rattle.br_check.specs.Calls.{AppendsInTurn}
use Rattle.br_check.specs.ChecksumBlocks.{Leads, block_lines, bytes_in, lines_from, sum_lines}
use Rattle.br_check.specs.Shown.{ComesLater, Moment, Shown}

-- the line of a volume that the drive failed to read at an address
abbrev pub failed_line : List ℕ → ℕ → List ℕ
failed_line volume address = line (codes "volume 13 " ++ escaped volume ++ 32 ∷ decimal address)

-- The lines of the first blocks of a piece's volume, and the line that says that the drive failed at
-- the address of the block after them. The walk passed exactly these blocks before that address.
pub record TellsFront (piece : Piece) (bytes told : List ℕ) : Type 0 where
  pub passed : List LaidBlock
  pub address : ℕ
  pub reached : Leads piece.groups bytes 0 passed address
  pub whole : sum_lines piece bytes ≡ block_lines piece.volume piece.groups passed ++ lines_from piece.volume piece.groups bytes address
  pub said : told ≡ block_lines piece.volume piece.groups passed ++ failed_line piece.volume address

-- The lines about a piece over the volumes that a drive shows, if it tells them, by the failures
-- of the drive before and after: the lines of its blocks; or the first of these, and that the
-- drive failed.
abbrev pub TellsSums : Option (List Volume) → ℕ → ℕ → Piece → List ℕ → Type 0
TellsSums None failures failed piece told = ⊤
TellsSums (Some volumes) failures failed piece told =
    (told ≡ sum_lines piece (bytes_in volumes piece.volume))
    ⊎ (TellsFront piece (bytes_in volumes piece.volume) told × (failures < failed))

-- the lines about a piece, by a walk between two moments of the drive
pub record TellsPiece (before after : Moment) (piece : Piece) (told : List ℕ) : Type 0 where
  pub later : ComesLater before after
  pub tells : TellsSums after.shows before.failures after.failures piece told

-- the lines about a piece were appended
abbrev pub AppendsSums : Option (List Volume) → ℕ → ℕ → Piece → List ℕ → List ℕ → Type 0
AppendsSums shown failures failed piece before after = (told : List ℕ) × TellsSums shown failures failed piece told × (after ≡ before ++ told)

-- the lines about each piece were appended, one piece after the other
abbrev pub SumsOver : Shown → List Piece → List ℕ → List ℕ → Type 0
SumsOver s pieces before after = AppendsInTurn TellsPiece s pieces before after

-- the lines about one piece were appended, over the volumes that a drive may be taken to show
abbrev pub PieceOver : Shown → Piece → List ℕ → List ℕ → Type 0
PieceOver s piece before after = AppendsSums s.later.shows s.earlier.failures s.later.failures piece before after
