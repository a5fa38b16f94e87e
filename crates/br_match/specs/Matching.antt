-- The hits that a drive finds for a piece while its volumes may change.
use Rattle.std.specs.Prelude.{◌≡◌, ℕ, ◌<◌, ◌⊎◌, false, List, length, Option, Some, None, Result, Ok, ⊤}
use Rattle.std.specs.List.{AllByRecursion}
use Rattle.br_model.specs.Answer.{Answers}
use Rattle.br_model.specs.Text.{is_empty}
use Rattle.br_model.specs.Volume.{Volume, volume_bytes, Extends}
use Rattle.br_model.specs.Bootstrap.{Group}
use Rattle.br_model.specs.Meaning.{Piece, Hit, hits_on, last_address}
use Rattle.br_match.specs.Fault.{cause}
use Rattle.br_match.specs.declared.hit.Found.{Found}
use Rattle.br_match.specs.declared.fault.PieceFault.{PieceFault}

-- The piece has groups, no block that it reads on the volumes is refused, and each of its groups has
-- addresses, the last of them inside the volume.
pub record IsEnclosed (volumes : List Volume) (piece : Piece) : Type 0 where
  pub some : 0 < length piece.groups
  pub hits : List Hit
  pub defined : hits_on volumes piece ≡ Ok hits
  pub bytes : List ℕ
  pub found : volume_bytes volumes piece.volume ≡ Some bytes
  pub ended : AllByRecursion (λ (g : ℕ × Group). (is_empty g.1.addresses ≡ false) × (last_address g.1 < length bytes)) piece.groups

-- A drive that showed the earlier volumes before a call and the later ones after it may be taken to
-- show these: they are what it showed throughout, or it showed more than them, and the piece is
-- enclosed in them.
abbrev pub StandsFor : List Volume → List Volume → Piece → List Volume → Type 0
StandsFor earlier later piece volumes = Extends earlier volumes × (Extends volumes later ⊎ IsEnclosed volumes piece)

-- the same for several pieces: the volumes are what it showed throughout, or each of the pieces is
-- enclosed in them
abbrev pub StandsForEach : List Volume → List Volume → List Piece → List Volume → Type 0
StandsForEach earlier later pieces volumes = Extends earlier volumes × (Extends volumes later ⊎ AllByRecursion (IsEnclosed volumes) pieces)

-- the result is the hits of the piece on the volumes, or their first fault; a drive may fail, and
-- memory may run out, at any time
abbrev pub AnswersPiece : List Volume → Piece → Result Found PieceFault → Type 0
AnswersPiece volumes piece result = Answers (λ (f : Found). f.hits.items) cause result (hits_on volumes piece)

-- if the drive tells its volumes, the result is that of all volumes that it may be taken to show
abbrev pub FoundOver : Option (List Volume) → Option (List Volume) → Piece → Result Found PieceFault → Type 0
FoundOver (Some earlier) (Some later) piece result =
    (volumes : List Volume) → StandsFor earlier later piece volumes → AnswersPiece volumes piece result
FoundOver None later piece result = ⊤
FoundOver (Some earlier) None piece result = ⊤
