-- What a drive gave it gives still.
use Rattle.std.proofs.Common.{ℕ, List, Option, Some, None}
use Rattle.br_model.specs.Bootstrap.{Group}
use Rattle.br_model.specs.Meaning.{Spot}
use Rattle.br_model.specs.Volume.{Volume}
use Rattle.br_volume.specs.Drive.{OnlyGrows}
use Rattle.br_data.specs.StandingHits.{StandingStays, place_on}
use Rattle.br_data.specs.OverDrives.{GivesOver}

-- when its volumes have grown
pub gives_still : StandingStays → (earlier later : Option (List Volume)) (groups : List Group) (spot : Spot) (bytes : List ℕ) → OnlyGrows earlier later
    → GivesOver earlier groups spot bytes → GivesOver later groups spot bytes
gives_still stays None later groups spot bytes grown given = absurd given
gives_still stays (Some e) None groups spot bytes grown given = absurd grown
gives_still stays (Some e) (Some l) groups spot bytes grown given = record {
  group = given.group;
  fragment = given.fragment;
  of = given.of;
  stands = stays e l (place_on given.group.volume spot) given.fragment grown given.stands;
  same = given.same;
}
