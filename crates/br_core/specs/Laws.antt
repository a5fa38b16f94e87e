-- What holds of every run of the machine.
use Rattle.std.specs.Prelude.{◌≡◌, ◌⊎◌, ◌∷◌, ◌++◌, ℕ, List, Some, Ok, Contains}
use Rattle.std.specs.List.{AllZip}
use Rattle.std.specs.List.Sorted.{IsPermutation}
use Rattle.br_model.specs.Volume.{Volume, Extends}
use Rattle.br_model.specs.Meaning.{Hit, Hits, HasHit, AreAmong, meaning}
use Rattle.br_model.specs.Restored.{Restored, files}
use Rattle.br_model.specs.Job.{JobRows, Job}
use Rattle.br_model.specs.Choice.{Request, choose}
use Rattle.br_model.specs.View.{Entry, view_of}
use Rattle.br_model.specs.Console.{Command}
use Rattle.br_model.specs.Plan as model
use Rattle.br_model.specs.Plan.{selection}
use Rattle.br_model.specs.PlanMeaning.{IsCopy, by_key, rows_of_jobs}
use Rattle.br_model.specs.Stored.{Holds}
use Rattle.br_core.specs.Machine.{World, Restore, Event, Reply, IsStart, IsStep, IsRun, IsWhole, marks_of, plan_for, restore_at}
use Rattle.br_core.specs.Machine.Event.{Plan, Deliver}
use Rattle.br_core.specs.Machine.Reply.{Planned, Delivered}

-- The restore of this number was planned in the run: some steps, then its plan, then more steps.
pub record WasPlanned (first last : World) (events : List Event) (replies : List Reply) (number : ℕ) : Type 0 where
  pub request : Request
  pub script : List Command
  pub moment : World
  pub begun : World
  pub chosen : List JobRows
  pub plan : model.Plan
  pub before : List Event
  pub between : List Event
  pub replies_before : List Reply
  pub replies_between : List Reply
  pub events_are : events ≡ before ++ Plan request script ∷ between
  pub replies_are : replies ≡ replies_before ++ Planned number ∷ replies_between
  pub run_before : IsRun first before replies_before moment
  pub plan_step : IsStep moment (Plan request script) (Planned number) begun
  pub run_between : IsRun begun between replies_between last
  pub chosen_are : choose (rows_of_jobs moment.jobs) request ≡ Ok chosen
  pub plan_is : plan_for (rows_of_jobs moment.jobs) request script ≡ Ok (marks_of chosen script, plan)

-- The volumes of this moment hold the chosen jobs that were there before the first step. Nothing is
-- required of jobs that were committed later.
abbrev pub OldOnesHold : World → World → List JobRows → Type 0
OldOnesHold first moment chosen = (j : Job) → Contains first.jobs j → Contains chosen j.rows → Holds moment.volumes j

-- The hits of the restore, on their way or taken, are among those of the bootstrap over the
-- volumes. If all of its pieces are read and nothing is on its way, the taken hits are all of them.
pub record HasHitsOf (plan : model.Plan) (volumes : List Volume) (r : Restore) : Type 0 where
  pub set : Hits
  pub means : meaning plan.groups volumes ≡ Ok set
  pub on_their_way : (batch : List Hit) (hit : Hit) → Contains r.transit batch → Contains batch hit → HasHit set hit
  pub taken_are : AreAmong r.taken set
  pub whole : IsWhole r → r.taken ≡ set

-- At every point of every run from a start, each restore has a plan before it, and has hits of its
-- bootstrap.
abbrev pub HitsOfARun : Type 0
HitsOfARun =
    (first last : World) (events : List Event) (replies : List Reply) (number : ℕ) (r : Restore)
    → IsStart first → IsRun first events replies last → restore_at last number ≡ Some r
    → WasPlanned first last events replies number
    × ((p : WasPlanned first last events replies number) → OldOnesHold first p.moment p.chosen → HasHitsOf p.plan p.moment.volumes r)

-- the entries that a script selects in the view of the chosen jobs
abbrev pub selected_by : List JobRows → List Command → List Entry
selected_by chosen script = selection (view_of chosen) (marks_of chosen script)

-- These are exactly the selected entries, each once, as the copy that its newest job saved. They
-- are the files that the bootstrap means over all volumes that extend those of the moment.
pub record IsRestored (moment : World) (chosen : List JobRows) (script : List Command) (plan : model.Plan) (delivered : List Restored) : Type 0 where
  pub copies : AllZip (IsCopy moment.jobs) (by_key (selected_by chosen script)) delivered
  pub each_once : IsPermutation (selected_by chosen script) (by_key (selected_by chosen script))
  pub means : (later : List Volume) → Extends later moment.volumes
      → (hits : Hits) × (meaning plan.groups later ≡ Ok hits) × (files hits (Some plan.names) ≡ delivered)

-- For every run from a start, with any commits, plans, failures and repeats in any order: each
-- delivery that gives files has a plan before it, and gives what that plan's script selected among
-- the jobs of that moment.
abbrev pub Headline : Type 0
Headline =
    (first last after : World) (events : List Event) (replies : List Reply) (number : ℕ) (delivered : List Restored)
    → IsStart first → IsRun first events replies last → IsStep last (Deliver number) (Delivered delivered) after
    → WasPlanned first last events replies number
    × ((p : WasPlanned first last events replies number) → OldOnesHold first p.moment p.chosen
    → IsRestored p.moment p.chosen p.script p.plan delivered)

-- Volumes only grow. A job of a later state was there in the first, or the later volumes hold it.
-- The later volumes also hold each job that the first ones hold.
abbrev pub JobsHold : Type 0
JobsHold =
    (first last : World) (events : List Event) (replies : List Reply) → IsRun first events replies last
    → Extends last.volumes first.volumes
    × ((j : Job) → Contains last.jobs j → Contains first.jobs j ⊎ Holds last.volumes j)
    × ((j : Job) → Holds first.volumes j → Holds last.volumes j)
