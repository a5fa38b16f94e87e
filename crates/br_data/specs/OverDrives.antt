-- Data that a drive rereads from the volumes of a bootstrap.
use Rattle.std.specs.Prelude.{◌≡◌, ℕ, List, Option, Some, None, slice_get}
use Rattle.br_model.specs.Block.{Fragment}
use Rattle.br_model.specs.Bootstrap.{Group}
use Rattle.br_model.specs.Meaning.{Spot}
use Rattle.br_model.specs.Volume.{Volume}
use Rattle.br_data.specs.StandingHits.{Stands, place_on}

-- a fragment at the place, on the volume of its group, has these bytes
pub record IsFragmentOf (volumes : List Volume) (groups : List Group) (spot : Spot) (bytes : List ℕ) : Type 0 where
  pub group : Group
  pub fragment : Fragment
  pub of : slice_get groups spot.group ≡ Some group
  pub stands : Stands volumes (place_on group.volume spot) fragment
  pub same : fragment.bytes ≡ bytes

-- the drive tells its volumes, and these have the bytes at the place
abbrev pub GivesOver : Option (List Volume) → List Group → Spot → List ℕ → Type 0
GivesOver None groups spot bytes = ⊥
GivesOver (Some shown) groups spot bytes = IsFragmentOf shown groups spot bytes
