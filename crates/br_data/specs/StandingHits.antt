-- The places of the fragments that were found, which stay the same.
use Rattle.std.specs.Prelude.{◌≡◌, ℕ, List, drop, Option, Some, None, Ok, slice_get, Contains, ⊤}
use Rattle.br_model.specs.Block.{Fragment, read_block, fragments_of}
use Rattle.br_model.specs.Volume.{Volume, volume_bytes, Extends}
use Rattle.br_model.specs.Meaning.{Piece, Spot, Hit, hits_on}

-- the volume has this whole block at the address
pub record IsBlockAt (volumes : List Volume) (name : List ℕ) (address : ℕ) (block : List ℕ) : Type 0 where
  pub bytes : List ℕ
  pub found : volume_bytes volumes name ≡ Some bytes
  pub whole : read_block (drop address bytes) ≡ Ok block

-- where a fragment is: its volume, the address of its block, and the number of fragments before it in the block
pub record FragmentPlace : Type 0 where
  pub volume : List ℕ
  pub address : ℕ
  pub ordinal : ℕ

-- the place of a hit on this volume
abbrev pub place_on : List ℕ → Spot → FragmentPlace
place_on name spot = record { volume = name; address = spot.address; ordinal = spot.ordinal }

-- the volumes have the fragment at the place
pub record Stands (volumes : List Volume) (place : FragmentPlace) (fragment : Fragment) : Type 0 where
  pub block : List ℕ
  pub there : IsBlockAt volumes place.volume place.address block
  pub at : slice_get (fragments_of block) place.ordinal ≡ Some fragment

-- each hit of a piece is at its place on the volume of the piece
abbrev pub HitsStand : Type 0
HitsStand =
    (volumes : List Volume) (piece : Piece) (hits : List Hit) (hit : Hit) → hits_on volumes piece ≡ Ok hits → Contains hits hit
    → Stands volumes (place_on piece.volume hit.spot) hit.fragment

-- what is at a place stays there while volumes grow
abbrev pub StandingStays : Type 0
StandingStays =
    (volumes later : List Volume) (place : FragmentPlace) (fragment : Fragment) → Extends later volumes
    → Stands volumes place fragment → Stands later place fragment

-- there is one fragment at a place
abbrev pub StandsOnce : Type 0
StandsOnce =
    (volumes : List Volume) (place : FragmentPlace) (one other : Fragment)
    → Stands volumes place one → Stands volumes place other → one ≡ other

-- The drive tells its volumes, and shows at least these.
abbrev pub ShowsAll : Option (List Volume) → List Volume → Type 0
ShowsAll None volumes = ⊥
ShowsAll (Some shown) volumes = Extends shown volumes

-- If the drive tells its volumes, they have this whole block at the address.
abbrev pub ShowsBlock : Option (List Volume) → List ℕ → ℕ → List ℕ → Type 0
ShowsBlock None name address block = ⊤
ShowsBlock (Some shown) name address block = IsBlockAt shown name address block
