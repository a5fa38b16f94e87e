-- The running machine: its state, and its steps.
use Rattle.std.specs.Prelude.{◌≡◌, ℕ, ◌≤◌, List, map, option_map, slice_get, Option, Some, None, IfSome, Result, Ok, Err}
use Rattle.br_model.specs.Volume.{Volume}
use Rattle.br_model.specs.Choice.{Request}
use Rattle.br_model.specs.Console.{Command}
use Rattle.br_model.specs.Plan as model
use Rattle.br_model.specs.PlanMeaning.{rows_of_jobs}
use Rattle.br_core.specs.Fault.{cause}
use Rattle.br_core.specs.Happening.{reply_of}
use Rattle.br_core.specs.Machine as machine
use Rattle.br_core.specs.Machine.{World, Event, ToCommit, Can, Goes, IsEnabled, IsStep, Moves, plan_for, planned, restore_at, stages_of}
use Rattle.br_core.specs.Machine.Event.{Commit}
use Rattle.br_core.specs.Machine.Reply.{Refused}
use Rattle.br_core.specs.Moving.{commits_at}
use Rattle.br_core.specs.Reached.{IsReached}
use Rattle.br_core.specs.View.{restore_of}
use Rattle.br_core.specs.declared.event.Reply.{Reply}
use Rattle.br_core.specs.declared.event.Reply.TheVariants as given
use Rattle.br_core.specs.declared.fault.StepFault.{StepFault}
use Rattle.br_core.specs.declared.open_restore.OpenRestore.{OpenRestore}

-- the state of these jobs and volumes with some restores
abbrev pub world_with : World → List (Option OpenRestore) → World
world_with backups restores = record backups { restores = map (option_map (restore_of backups.jobs (stages_of backups))) restores }

-- The step is one of the relation, with its reply. A refusal changes nothing, and the relation
-- refuses too, unless memory ran out.
abbrev pub TakesStep : World → Event → World → Result Reply StepFault → Type 0
TakesStep before event after (Ok reply) = IsStep before event (reply_of reply) after
TakesStep before event after (Err fault) = (after ≡ before) × IfSome (cause fault) (λ n. IsStep before event (Refused n) before)

-- In this state the event is this move of the restore of this number. The restore meets the
-- premise.
pub record IsEventOf
    (w : World) (number : ℕ) (event : Event) (Premise : machine.Restore → Type 0) (Move : machine.Restore → machine.Restore → Type 0)
    : Type 0 where
  pub steps : (reply : machine.Reply) (after : World) → Goes w number event reply after → IsStep w event reply after
  pub can : IsEnabled w event → Can w number event
  pub is_move : (r after : machine.Restore) → restore_at w number ≡ Some r → Moves w event r after → Move r after
  pub moves : (r after : machine.Restore) → restore_at w number ≡ Some r → Move r after → Moves w event r after
  pub asked : (r : machine.Restore) → restore_at w number ≡ Some r → Premise r

-- in every state with these restores, the event of this move of the restore of this number is a
-- step
abbrev pub StepsOfOne :
    (machine.Restore → Type 0) → (machine.Restore → machine.Restore → Type 0) → ℕ → List (Option OpenRestore) → List (Option OpenRestore)
    → Result Reply StepFault → Type 0
StepsOfOne Premise Move number before after result =
    (backups : World) (event : Event) → IsEventOf (world_with backups before) number event Premise Move
    → TakesStep (world_with backups before) event (world_with backups after) result

-- The result of a plan before it has a number: the restore, just planned from the marks of the
-- script, or the relation's refusal, unless memory ran out.
abbrev pub PlansRestore : World → Request → List Command → Result OpenRestore StepFault → Type 0
PlansRestore w q script (Ok r) =
    (marks : List (List ℕ)) × (plan : model.Plan) × (plan_for (rows_of_jobs w.jobs) q script ≡ Ok (marks, plan))
    × (restore_of w.jobs (stages_of w) r ≡ planned w q marks plan)
PlansRestore w q script (Err fault) = IfSome (cause fault) (λ n. plan_for (rows_of_jobs w.jobs) q script ≡ Err n)

-- The commit of a job is a step, whatever the restores are, if a run from the empty state reaches
-- the state with these.
abbrev pub CommitsBeside : World → ToCommit → World → Result Reply StepFault → Type 0
CommitsBeside before job after result =
    (restores : List (Option OpenRestore)) → IsReached (world_with before restores)
    → TakesStep (world_with before restores) (Commit job) (world_with after restores) result

-- the restores change by an event that leaves the jobs and the volumes
abbrev pub RestoresStep : World → List (Option OpenRestore) → Event → List (Option OpenRestore) → Result Reply StepFault → Type 0
RestoresStep backups before event after result = TakesStep (world_with backups before) event (world_with backups after) result

-- The volumes after this number of commits, if the restore of the number is not over and was planned
-- after no more commits.
abbrev pub ShowsTo : World → List (Option OpenRestore) → ℕ → ℕ → Option (List Volume) → Type 0
ShowsTo backups restores number commits (Some volumes) =
    ((since : ℕ) × (commits_at (slice_get restores number) ≡ Some since) × (since ≤ commits))
    × (slice_get (stages_of backups) commits ≡ Some volumes)
ShowsTo backups restores number commits None =
    (since : ℕ) (volumes : List Volume) → commits_at (slice_get restores number) ≡ Some since → since ≤ commits
    → slice_get (stages_of backups) commits ≡ Some volumes → ⊥

-- the reply to a step: a refusal is a reply, too
abbrev pub IsReply : Result Reply StepFault → Reply → Type 0
IsReply (Ok taken) reply = reply ≡ taken
IsReply (Err fault) reply = (number : ℕ) × (cause fault ≡ Some number) × (reply ≡ given.Refused number)
