-- A machine of atomic steps: backups commit, restores are planned, and their pieces are read and
-- delivered meanwhile, in any order.
use Rattle.std.specs.Prelude.{◌≡◌, ℕ, ◌+◌, ◌⊎◌, ◌≤◌, true, List, [], ◌∷◌, ◌++◌, length, map, take, drop, set, Option, Some, None, Result, Ok, Err, slice_get, ⊤}
use Rattle.std.specs.List.{AllByRecursion}
use Rattle.std.specs.FinMap.{empty}
use Rattle.br_model.specs.Answer.{◌>>=◌}
use Rattle.br_model.specs.Volume.{Volume, Extends}
use Rattle.br_model.specs.Meaning.{Piece, Hit, Hits, pieces_of, with_hits}
use Rattle.br_model.specs.Restored.{Restored, files}
use Rattle.br_model.specs.Job.{JobRows, Job, IsJob, pushed, is_history}
use Rattle.br_model.specs.Session.{Written, IsWritten, ArePacked, session_records, visits, checked_spans}
use Rattle.br_model.specs.Choice.{Request, choose}
use Rattle.br_model.specs.View.{view_of}
use Rattle.br_model.specs.Console.{Command, at_start, marks_after}
use Rattle.br_model.specs.Plan as model
use Rattle.br_model.specs.Plan.{plan_of}
use Rattle.br_model.specs.PlanMeaning.{rows_of_jobs}
use Rattle.br_model.specs.Stored.{Holds}
use Rattle.br_match.specs.Walk.{step_on}
pub use Rattle.br_history.specs.Preparing.{job_of, job_rows}
pub use Rattle.br_history.specs.Saving.{ToCommit}

-- ---- states

-- the status of a piece of a restore: nobody reads it; a walk reads it and is before the block at
-- this address; it was read to its end
pub data Status : Type 0 where
  Waiting : Status
  Claimed : ℕ → Status
  Finished : Status

-- A restore that is not over: the jobs, the volumes and the number of commits at its plan, the
-- request, the marks, the plan, the status of each piece, the hits that are on their way, block by
-- block, and the set of the hits that were taken.
pub record Restore : Type 0 where
  pub jobs : List Job
  pub volumes : List Volume
  pub commits : ℕ
  pub request : Request
  pub marks : List (List ℕ)
  pub plan : model.Plan
  pub statuses : List Status
  pub transit : List (List Hit)
  pub taken : Hits

-- The jobs in the order of their commits, the volumes, what the volumes were before each commit,
-- and the restores under their numbers, from 0; none for a restore that is over.
pub record World : Type 0 where
  pub jobs : List Job
  pub volumes : List Volume
  pub earlier : List (List Volume)
  pub restores : List (Option Restore)

-- ---- events and replies

-- What can happen. All events except commits and plans are of the restore with the first number.
-- The second number is that of a piece, or for `Take` the place of a batch among those on their
-- way. The third number of a `Read` is a number of commits: the walk reads the volumes after these.
--
-- The last three happen on volumes that other programs write too: they find these volumes, which
-- extend those of the state, or those of the plan.
pub data Event : Type 0 where
  Commit : ToCommit → Event
  Plan : Request → List Command → Event
  Claim : ℕ → ℕ → Event
  Read : ℕ → ℕ → ℕ → Event
  Fail : ℕ → ℕ → Event
  Finish : ℕ → ℕ → Event
  Take : ℕ → ℕ → Event
  Deliver : ℕ → Event
  CommitFinds : ToCommit → List Volume → Event
  ReadFinds : ℕ → ℕ → List Volume → Event
  FinishFinds : ℕ → ℕ → List Volume → Event

-- the reply: done; the number of the planned restore; the number of a refusal; the files of a
-- restore
pub data Reply : Type 0 where
  Done : Reply
  Planned : ℕ → Reply
  Refused : ℕ → Reply
  Delivered : List Restored → Reply

-- ---- commits

-- the lengths of volumes
abbrev pub lengths_of : List Volume → List (List ℕ × ℕ)
lengths_of volumes = map (λ (v : Volume). (v.name, length v.bytes)) volumes

-- The job is there, and the volumes hold it. Its session was written to the volumes that the commit
-- finds. The volumes after it extend those.
pub record IsCommitted (before : World) (c : ToCommit) (found : List Volume) (after : World) : Type 0 where
  pub written : Written
  pub is_written : IsWritten c.files c.row.session c.limit c.places (lengths_of found) written
  pub fits : pushed (rows_of_jobs before.jobs) (job_rows c written.spans) ≡ Ok (rows_of_jobs after.jobs)
  pub is_job : IsJob (job_of c written.spans)
  pub jobs_are : after.jobs ≡ before.jobs ++ job_of c written.spans ∷ []
  pub extend : Extends after.volumes found
  pub holds : Holds after.volumes (job_of c written.spans)
  pub earlier_are : after.earlier ≡ before.earlier ++ before.volumes ∷ []
  pub restores_are : after.restores ≡ before.restores

-- the job can be among the others, but on the volumes that the commit finds, a span would end past
-- the greatest address, or there would be too many of them
pub record IsTooLong (before : World) (c : ToCommit) (found : List Volume) : Type 0 where
  pub blocks : List (List ℕ)
  pub accepted : List JobRows
  pub fits : pushed (rows_of_jobs before.jobs) (job_rows c []) ≡ Ok accepted
  pub packed : ArePacked c.limit c.row.session (session_records c.files) blocks
  pub refused : checked_spans (lengths_of found) (visits c.places blocks) ≡ Err 42

-- the number with which a commit is refused: 40 or 41 because of the other jobs, or 42 because of
-- the volumes that it finds
abbrev pub IsRefusedFor : World → ToCommit → List Volume → ℕ → Type 0
IsRefusedFor before c found n =
    (pushed (rows_of_jobs before.jobs) (job_rows c []) ≡ Err n) ⊎ ((n ≡ 42) × IsTooLong before c found)

-- ---- plans

-- the paths that a script marks in the view of the chosen jobs
abbrev pub marks_of : List JobRows → List Command → List (List ℕ)
marks_of chosen script = (marks_after (view_of chosen) at_start script).marked

-- the plan for the marks of a script: 53, 54 or 50 if no jobs are chosen, 51 if nothing is marked
unfoldable pub plan_for : List JobRows → Request → List Command → Result ((List (List ℕ)) × model.Plan) ℕ
plan_for history q script = do
  chosen ← choose history q
  plan ← plan_of history q (marks_of chosen script)
  Ok (marks_of chosen script, plan)

-- a restore that was just planned, all of its pieces waiting
abbrev pub planned : World → Request → List (List ℕ) → model.Plan → Restore
planned w q marks plan = record {
  jobs = w.jobs;
  volumes = w.volumes;
  commits = length w.earlier;
  request = q;
  marks = marks;
  plan = plan;
  statuses = map (λ (p : Piece). Waiting) (pieces_of plan.groups);
  transit = [];
  taken = empty;
}

-- ---- restores

-- the restore of this number, if there is one that is not over
abbrev pub restore_at : World → ℕ → Option Restore
restore_at w number = flat (slice_get w.restores number)
  where
    flat : Option (Option Restore) → Option Restore
    flat (Some it) = it
    flat None = None

-- the restore of this number becomes this one, or is over
abbrev pub becomes : World → ℕ → Option Restore → World
becomes w number it = record w { restores = set w.restores number it }

-- a piece of the restore has this status
abbrev pub stands : Restore → ℕ → Status → Type 0
stands r piece status = slice_get r.statuses piece ≡ Some status

-- the piece gets this status
abbrev pub goes : Restore → ℕ → Status → Restore
goes r piece status = record r { statuses = set r.statuses piece status }

-- the volumes after each number of commits, from none to the present one
abbrev pub stages_of : World → List (List Volume)
stages_of w = w.earlier ++ w.volumes ∷ []

-- These are the volumes after this number of commits, which is at least that at the restore's plan.
pub record AreAfter (w : World) (r : Restore) (commits : ℕ) (volumes : List Volume) : Type 0 where
  pub since : r.commits ≤ commits
  pub are : slice_get (stages_of w) commits ≡ Some volumes

-- A walk reads the block at its address, over these volumes. The block's hits are then on their
-- way, as one batch.
pub record IsRead (r : Restore) (piece : ℕ) (volumes : List Volume) (after : Restore) : Type 0 where
  pub address : ℕ
  pub next : ℕ
  pub batch : List Hit
  pub the_piece : Piece
  pub claimed : stands r piece (Claimed address)
  pub piece_is : slice_get (pieces_of r.plan.groups) piece ≡ Some the_piece
  pub step : step_on volumes the_piece address ≡ Ok (Some (batch, next))
  pub after_is : after ≡ record (goes r piece (Claimed next)) { transit = r.transit ++ batch ∷ [] }

-- the walk of a piece is at its end, over these volumes
pub record IsAtEnd (r : Restore) (piece : ℕ) (volumes : List Volume) : Type 0 where
  pub address : ℕ
  pub the_piece : Piece
  pub claimed : stands r piece (Claimed address)
  pub piece_is : slice_get (pieces_of r.plan.groups) piece ≡ Some the_piece
  pub ends : step_on volumes the_piece address ≡ Ok None

-- a batch that is on its way is taken
pub record IsTaken (r : Restore) (place : ℕ) (after : Restore) : Type 0 where
  pub batch : List Hit
  pub under_way : slice_get r.transit place ≡ Some batch
  pub after_is : after ≡ record r { transit = take place r.transit ++ drop (place + 1) r.transit; taken = with_hits r.taken batch }

-- all pieces are read, and nothing is on its way
pub record IsWhole (r : Restore) : Type 0 where
  pub finished : AllByRecursion (λ status. status ≡ Finished) r.statuses
  pub none : r.transit ≡ []

-- the result of an event for a restore that is not over, in this state
abbrev pub Moves : World → Event → Restore → Restore → Type 0
Moves w (Claim number piece) r after = stands r piece Waiting × (after ≡ goes r piece (Claimed 0))
Moves w (Read number piece commits) r after = (volumes : List Volume) × AreAfter w r commits volumes × IsRead r piece volumes after
Moves w (Fail number piece) r after = ((address : ℕ) × stands r piece (Claimed address)) × (after ≡ goes r piece Waiting)
Moves w (Finish number piece) r after = IsAtEnd r piece r.volumes × (after ≡ goes r piece Finished)
Moves w (Take number place) r after = IsTaken r place after
Moves w (ReadFinds number piece volumes) r after = Extends volumes r.volumes × IsRead r piece volumes after
Moves w (FinishFinds number piece volumes) r after =
    Extends volumes r.volumes × IsAtEnd r piece volumes × (after ≡ goes r piece Finished)
Moves w (Commit c) r after = ⊥
Moves w (CommitFinds c found) r after = ⊥
Moves w (Plan q script) r after = ⊥
Moves w (Deliver number) r after = ⊥

-- ---- steps

-- the restore is there and not over, and the event has a result for it
abbrev pub Can : World → ℕ → Event → Type 0
Can w number event = (r : Restore) × (after : Restore) × (restore_at w number ≡ Some r) × Moves w event r after

-- The event can happen: a commit and a plan always; a commit that finds other volumes if these
-- extend those of the state; every other event if its restore is there and not over, and meets the
-- event's conditions.
abbrev pub IsEnabled : World → Event → Type 0
IsEnabled w (Commit c) = ⊤
IsEnabled w (Plan q script) = ⊤
IsEnabled w (Claim number piece) = Can w number (Claim number piece)
IsEnabled w (Read number piece commits) = Can w number (Read number piece commits)
IsEnabled w (Fail number piece) = Can w number (Fail number piece)
IsEnabled w (Finish number piece) = Can w number (Finish number piece)
IsEnabled w (Take number place) = Can w number (Take number place)
IsEnabled w (Deliver number) = (r : Restore) × (restore_at w number ≡ Some r) × IsWhole r
IsEnabled w (CommitFinds c found) = Extends found w.volumes
IsEnabled w (ReadFinds number piece volumes) = Can w number (ReadFinds number piece volumes)
IsEnabled w (FinishFinds number piece volumes) = Can w number (FinishFinds number piece volumes)

-- the result of a commit: 40, 41 or 42 and no change, or the job is there. It finds the volumes of
-- the state.
abbrev pub Commits : World → ToCommit → Reply → World → Type 0
Commits w c Done after = IsCommitted w c w.volumes after
Commits w c (Refused n) after = (after ≡ w) × IsRefusedFor w c w.volumes n
Commits w c (Planned n) after = ⊥
Commits w c (Delivered rs) after = ⊥

-- the result of a commit that finds these volumes: the same over these; 59 and no change if they do
-- not extend those of the state
abbrev pub CommitsOn : World → ToCommit → List Volume → Reply → World → Type 0
CommitsOn w c found Done after = Extends found w.volumes × IsCommitted w c found after
CommitsOn w c found (Refused n) after =
    (after ≡ w) × ((Extends found w.volumes × IsRefusedFor w c found n) ⊎ ((n ≡ 59) × (Extends found w.volumes → ⊥)))
CommitsOn w c found (Planned n) after = ⊥
CommitsOn w c found (Delivered rs) after = ⊥

-- the result of a plan: 50, 51, 53 or 54 and no change, or one more restore, with the next number
abbrev pub Plans : World → Request → List Command → Reply → World → Type 0
Plans w q script (Planned n) after =
    (marks : List (List ℕ)) × (plan : model.Plan) × (plan_for (rows_of_jobs w.jobs) q script ≡ Ok (marks, plan))
    × (n ≡ length w.restores) × (after ≡ record w { restores = w.restores ++ Some (planned w q marks plan) ∷ [] })
Plans w q script (Refused n) after = (after ≡ w) × (plan_for (rows_of_jobs w.jobs) q script ≡ Err n)
Plans w q script Done after = ⊥
Plans w q script (Delivered rs) after = ⊥

-- the result of an event of one restore: it changes only that restore; 59 and no change if it is
-- not enabled
abbrev pub Goes : World → ℕ → Event → Reply → World → Type 0
Goes w number event Done after =
    (r : Restore) × (r' : Restore) × (restore_at w number ≡ Some r) × Moves w event r r' × (after ≡ becomes w number (Some r'))
Goes w number event (Refused n) after = (n ≡ 59) × (after ≡ w) × (IsEnabled w event → ⊥)
Goes w number event (Planned n) after = ⊥
Goes w number event (Delivered rs) after = ⊥

-- the result of a delivery: the files of what was taken under the planned names, and the restore is
-- over; 59 and no change if it is not enabled
abbrev pub Delivers : World → ℕ → Reply → World → Type 0
Delivers w number (Delivered rs) after =
    (r : Restore) × (restore_at w number ≡ Some r) × IsWhole r × (rs ≡ files r.taken (Some r.plan.names)) × (after ≡ becomes w number None)
Delivers w number (Refused n) after = (n ≡ 59) × (after ≡ w) × (IsEnabled w (Deliver number) → ⊥)
Delivers w number Done after = ⊥
Delivers w number (Planned n) after = ⊥

-- one step: an event in a state, its reply, and the state after it
abbrev pub IsStep : World → Event → Reply → World → Type 0
IsStep w (Commit c) reply after = Commits w c reply after
IsStep w (Plan q script) reply after = Plans w q script reply after
IsStep w (Claim number piece) reply after = Goes w number (Claim number piece) reply after
IsStep w (Read number piece commits) reply after = Goes w number (Read number piece commits) reply after
IsStep w (Fail number piece) reply after = Goes w number (Fail number piece) reply after
IsStep w (Finish number piece) reply after = Goes w number (Finish number piece) reply after
IsStep w (Take number place) reply after = Goes w number (Take number place) reply after
IsStep w (Deliver number) reply after = Delivers w number reply after
IsStep w (CommitFinds c found) reply after = CommitsOn w c found reply after
IsStep w (ReadFinds number piece volumes) reply after = Goes w number (ReadFinds number piece volumes) reply after
IsStep w (FinishFinds number piece volumes) reply after = Goes w number (FinishFinds number piece volumes) reply after

-- a run: some events one after another, with their replies
abbrev pub IsRun : World → List Event → List Reply → World → Type 0
IsRun w [] [] after = after ≡ w
IsRun w (event ∷ events) (reply ∷ replies) after = (next : World) × IsStep w event reply next × IsRun next events replies after
IsRun w [] (reply ∷ replies) after = ⊥
IsRun w (event ∷ events) [] after = ⊥

-- a state before the first step: any history and any volumes, and no restores
pub record IsStart (w : World) : Type 0 where
  pub history : is_history (rows_of_jobs w.jobs) ≡ true
  pub are_jobs : AllByRecursion IsJob w.jobs
  pub none : w.restores ≡ []
