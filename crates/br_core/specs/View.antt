-- A restore of the running machine, seen as one of the relation.
use Rattle.std.specs.Prelude.{◌≡◌, ℕ, Bool, true, false, ◌⊎◌, List, [], length, map, take, unwrap_or, slice_get, Result, Ok, Err}
use Rattle.br_model.specs.Volume.{Volume}
use Rattle.br_model.specs.Job.{Job}
use Rattle.br_model.specs.Choice.{Request}
use Rattle.br_model.specs.Plan as model
use Rattle.br_model.specs.Meaning.{Hit}
use Rattle.br_match.specs.declared.hit.Batch.{Batch}
use Rattle.br_core.specs.Machine as machine
use Rattle.br_core.specs.Machine.{IsAtEnd, IsRead, IsWhole, goes, planned, stages_of, stands}
use Rattle.br_core.specs.Machine.Status.{Waiting, Claimed, Finished}
use Rattle.br_core.specs.Reading.{CanBeRead}
use Rattle.br_core.specs.Statuses.{status_of}
use Rattle.br_core.specs.declared.fault.StepFault.{StepFault}
use Rattle.br_core.specs.declared.fault.StepFault.TheVariants.{Memory, NotEnabled}
use Rattle.br_core.specs.declared.open_restore.OpenRestore.{OpenRestore}

-- the hits of a batch that is on its way, and those of some batches
abbrev pub hits_of_batch : ℕ × Batch → List Hit
hits_of_batch b = b.1.hits.items

abbrev pub hits_of_batches : List (ℕ × Batch) → List (List Hit)
hits_of_batches batches = map hits_of_batch batches

-- A restore. The number of commits determines the jobs and the volumes of its plan: jobs and stages
-- are only appended to.
abbrev pub restore_of : List Job → List (List Volume) → OpenRestore → machine.Restore
restore_of jobs stages r = record {
  jobs = take r.commits jobs;
  volumes = unwrap_or (slice_get stages r.commits) [];
  commits = r.commits;
  request = r.request;
  marks = r.marks.items;
  plan = r.plan;
  statuses = map status_of r.statuses.items;
  transit = hits_of_batches r.transit.items;
  taken = r.joiner.hits;
}

-- the two correspond to one restore of the relation
abbrev pub IsSeenAs : OpenRestore → OpenRestore → Type 0
IsSeenAs before after = (jobs : List Job) (stages : List (List Volume)) → restore_of jobs stages after ≡ restore_of jobs stages before

-- a restore that meets the premise can't make the move
abbrev pub CannotMove : (machine.Restore → Type 0) → (machine.Restore → machine.Restore → Type 0) → OpenRestore → Type 0
CannotMove Premise Move r =
    (jobs : List Job) (stages : List (List Volume)) (after : machine.Restore)
    → Premise (restore_of jobs stages r) → Move (restore_of jobs stages r) after → ⊥

-- A restore that meets the premise makes the move, whatever its jobs and its volumes are. It is
-- unchanged if memory runs out, or if it can't make the move.
abbrev pub MovesIf :
    (machine.Restore → Type 0) → (machine.Restore → machine.Restore → Type 0) → OpenRestore → OpenRestore → Result (Unit {0}) StepFault
    → Type 0
MovesIf Premise Move before after (Ok _) =
    (jobs : List Job) (stages : List (List Volume))
    → Premise (restore_of jobs stages before) → Move (restore_of jobs stages before) (restore_of jobs stages after)
MovesIf Premise Move before after (Err fault) =
    IsSeenAs before after × ((fault ≡ Memory) ⊎ ((fault ≡ NotEnabled) × CannotMove Premise Move before))

-- a walk reads a block of a piece that can be read over these volumes
abbrev pub ReadsIf : ℕ → List Volume → OpenRestore → OpenRestore → Result (Unit {0}) StepFault → Type 0
ReadsIf piece shown = MovesIf (λ r. CanBeRead r piece shown) (λ r after. IsRead r piece shown after)

-- a walk takes a waiting piece
abbrev pub Claims : ℕ → machine.Restore → machine.Restore → Type 0
Claims piece r after = stands r piece Waiting × (after ≡ goes r piece (Claimed 0))

-- the walk of a piece fails
abbrev pub Fails : ℕ → machine.Restore → machine.Restore → Type 0
Fails piece r after = ((address : ℕ) × stands r piece (Claimed address)) × (after ≡ goes r piece Waiting)

-- the walk of a piece is at its end, over these volumes
abbrev pub Finishes : ℕ → List Volume → machine.Restore → machine.Restore → Type 0
Finishes piece shown r after = IsAtEnd r piece shown × (after ≡ goes r piece Finished)

-- the walk of a piece that can be read over these volumes is at its end
abbrev pub FinishesIf : ℕ → List Volume → OpenRestore → OpenRestore → Result (Unit {0}) StepFault → Type 0
FinishesIf piece shown = MovesIf (λ r. CanBeRead r piece shown) (λ r after. Finishes piece shown r after)

-- whether all pieces are read, and nothing is on its way
abbrev pub TellsWhole : OpenRestore → Bool → Type 0
TellsWhole r true = (jobs : List Job) (stages : List (List Volume)) → IsWhole (restore_of jobs stages r)
TellsWhole r false = (jobs : List Job) (stages : List (List Volume)) → IsWhole (restore_of jobs stages r) → ⊥

-- a restore that was just planned, after this number of commits
abbrev pub IsPlanned : ℕ → Request → List (List ℕ) → model.Plan → OpenRestore → Type 0
IsPlanned commits request marks plan r =
    (w : machine.World) → length w.earlier ≡ commits → length w.jobs ≡ commits
    → restore_of w.jobs (stages_of w) r ≡ planned w request marks plan
