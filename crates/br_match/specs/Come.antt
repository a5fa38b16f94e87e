-- Hits in blocks that walks reach.
use Rattle.std.specs.Prelude.{◌≡◌, ℕ, List, Some, Ok, Contains}
use Rattle.std.specs.List.{AllByRecursion}
use Rattle.br_model.specs.Volume.{Volume}
use Rattle.br_model.specs.Bootstrap.{Group}
use Rattle.br_model.specs.Meaning.{Piece, Hit, Hits, HasHit, IsReached, meaning, pieces_of}
use Rattle.br_match.specs.Walk.{step_on, ComesTo}

-- the pieces are those of a bootstrap
abbrev pub AreOfBootstrap : List Piece → Type 0
AreOfBootstrap pieces = (groups : List Group) × (pieces ≡ pieces_of groups)

-- the hit is in a block that the walk of one of the pieces reaches
pub record IsCome (volumes : List Volume) (pieces : List Piece) (hit : Hit) : Type 0 where
  pub piece : Piece
  pub address : ℕ
  pub next : ℕ
  pub batch : List Hit
  pub among : Contains pieces piece
  pub come : ComesTo volumes piece address
  pub step : step_on volumes piece address ≡ Ok (Some (batch, next))
  pub inside : Contains batch hit

-- each of the hits is in such a block
abbrev pub AllComeTo : List Volume → List Piece → List Hit → Type 0
AllComeTo volumes pieces hits = AllByRecursion (IsCome volumes pieces) hits

-- A hit in a block that a walk comes to is one that is reached, whatever follows the block.
abbrev pub ComeIsReached : Type 0
ComeIsReached = (groups : List Group) (volumes : List Volume) (hit : Hit) → IsCome volumes (pieces_of groups) hit → IsReached groups volumes hit

-- Such a hit is one of the meaning, if there is one.
abbrev pub ComeIsMeant : Type 0
ComeIsMeant =
    (groups : List Group) (volumes : List Volume) (set : Hits) (hit : Hit) → meaning groups volumes ≡ Ok set → IsCome volumes (pieces_of groups) hit → HasHit set hit
