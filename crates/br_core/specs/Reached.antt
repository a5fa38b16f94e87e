-- States that a run from the empty state reaches.
use Rattle.std.specs.Prelude.{List, []}
pub use Rattle.br_history.specs.Committing.{AreWhole}
use Rattle.br_core.specs.Machine.{World, Event, Reply, IsRun}

-- a state without jobs, volumes and restores
abbrev pub nothing : World
nothing = record { jobs = []; volumes = []; earlier = []; restores = [] }

-- A run from the empty state leads to the state, and its volumes consist of whole blocks. So every
-- law of runs holds of it, and its volumes hold all of its jobs.
pub record IsReached (w : World) : Type 0 where
  pub events : List Event
  pub replies : List Reply
  pub run : IsRun nothing events replies w
  pub whole : AreWhole w.volumes
