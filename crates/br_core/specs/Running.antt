-- The laws of the machine for each state and each run from the empty state.
use Rattle.std.specs.Prelude.{◌≡◌, ℕ, ◌≤◌, List, length, take, drop, slice_get, Some}
use Rattle.br_model.specs.Restored.{Restored}
use Rattle.br_core.specs.Machine.{World, Restore, Event, Reply, IsRun, restore_at}
use Rattle.br_core.specs.Machine.Event.{Deliver}
use Rattle.br_core.specs.Machine.Reply.{Delivered}
use Rattle.br_core.specs.Laws.{WasPlanned, HasHitsOf, IsRestored}
use Rattle.br_core.specs.Reached.{nothing}

-- ---- a state, and the events and replies by which it was reached

-- for all events by which a run from the empty state reaches the state
abbrev pub HoweverReached : World → (List Event → List Reply → Type 0) → Type 0
HoweverReached w P = (events : List Event) (replies : List Reply) → IsRun nothing events replies w → P events replies

-- If an event of this state delivers files, its restore was planned before, and the files are what
-- the plan's script selected among the jobs of that moment.
abbrev pub GivesSelected : World → Event → Reply → List Event → List Reply → Type 0
GivesSelected w event reply events replies =
    (number : ℕ) (files : List Restored) → event ≡ Deliver number → reply ≡ Delivered files
    → WasPlanned nothing w events replies number
    × ((p : WasPlanned nothing w events replies number) → IsRestored p.moment p.chosen p.script p.plan files)

-- Each restore that is not over was planned before, and has hits of its bootstrap over the volumes
-- of that moment.
abbrev pub AllHaveHits : World → List Event → List Reply → Type 0
AllHaveHits w events replies =
    (number : ℕ) (r : Restore) → restore_at w number ≡ Some r
    → WasPlanned nothing w events replies number
    × ((p : WasPlanned nothing w events replies number) → HasHitsOf p.plan p.moment.volumes r)

-- ---- a run

-- the state after the first events of a run from the empty state to a last state
pub record IsAfter (events : List Event) (replies : List Reply) (last : World) (count : ℕ) (w : World) : Type 0 where
  pub before : IsRun nothing (take count events) (take count replies) w
  pub after : IsRun w (drop count events) (drop count replies) last

-- after each number of its events each restore has hits of its bootstrap
abbrev pub AlwaysHaveHits : List Event → List Reply → World → Type 0
AlwaysHaveHits events replies last =
    (count : ℕ) → count ≤ length events
    → (w : World) × IsAfter events replies last count w × AllHaveHits w (take count events) (take count replies)

-- each of its events that delivers files gives what was selected
abbrev pub AllGiveSelected : List Event → List Reply → World → Type 0
AllGiveSelected events replies last =
    (count : ℕ) (event : Event) (reply : Reply) → slice_get events count ≡ Some event → slice_get replies count ≡ Some reply
    → (w : World) × IsAfter events replies last count w × GivesSelected w event reply (take count events) (take count replies)
