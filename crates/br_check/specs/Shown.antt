-- What a drive shows while it is read.
use Rattle.std.specs.Prelude.{ℕ, ◌≤◌, List, Option}
use Rattle.br_model.specs.Volume.{Volume}
use Rattle.br_volume.specs.Drive.{OnlyGrows}
use Rattle.br_volume.specs.declared.drive.Drive.{Ghosts}

-- the volumes that a drive shows at a moment, if it tells them, and the number of its failures until then
pub record Moment : Type 0 where
  pub shows : Option (List Volume)
  pub failures : ℕ

-- two moments of a drive, before and after some calls
pub record Shown : Type 0 where
  pub earlier : Moment
  pub later : Moment

-- a drive in this state
abbrev pub moment : {D : Type 0} → Ghosts D → D → Moment
moment drives state = record { shows = drives.shows state; failures = drives.failures state }

-- what is shown from one state of a drive to another
abbrev pub shown_between : {D : Type 0} → Ghosts D → D → D → Shown
shown_between drives before after = record { earlier = moment drives before; later = moment drives after }

-- from one moment to the other the volumes only grow, and no failure is forgotten
pub record ComesLater (earlier later : Moment) : Type 0 where
  pub grows : OnlyGrows earlier.shows later.shows
  pub counted : earlier.failures ≤ later.failures
