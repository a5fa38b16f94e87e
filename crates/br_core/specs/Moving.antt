-- Restores under their numbers, none for one that is over, and a move of one of them.
use Rattle.std.specs.Prelude.{◌≡◌, ℕ, ◌⊎◌, List, map, set, option_map, slice_get, Option, Some, None, true, false, Result, Ok, Err, ⊤}
use Rattle.br_model.specs.Volume.{Volume}
use Rattle.br_model.specs.Job.{Job}
use Rattle.br_model.specs.Restored.{Restored, files}
use Rattle.br_volume.specs.Memory.{volumes_of}
use Rattle.br_core.specs.Machine as machine
use Rattle.br_core.specs.Machine.{IsRead, IsTaken}
use Rattle.br_core.specs.Reading.{CanBeRead}
use Rattle.br_core.specs.View.{CannotMove, Claims, Fails, Finishes, MovesIf, TellsWhole, restore_of}
use Rattle.br_core.specs.declared.fault.StepFault.{StepFault}
use Rattle.br_core.specs.declared.fault.StepFault.TheVariants.{Memory, NotEnabled}
use Rattle.br_core.specs.declared.open_restore.Move.{Move}
use Rattle.br_core.specs.declared.open_restore.Move.TheVariants.{Claim, Read, Fail, Finish, Take}
use Rattle.br_core.specs.declared.open_restore.OpenRestore.{OpenRestore}

-- the condition of a move on the restore
abbrev pub asked : Move → machine.Restore → Type 0
asked (Claim piece) r = ⊤
asked (Read piece volumes) r = CanBeRead r piece (volumes_of volumes.now)
asked (Fail piece) r = ⊤
asked (Finish piece volumes) r = CanBeRead r piece (volumes_of volumes.now)
asked (Take place) r = ⊤

-- what the restore is after the move
abbrev pub moved : Move → machine.Restore → machine.Restore → Type 0
moved (Claim piece) r after = Claims piece r after
moved (Read piece volumes) r after = IsRead r piece (volumes_of volumes.now) after
moved (Fail piece) r after = Fails piece r after
moved (Finish piece volumes) r after = Finishes piece (volumes_of volumes.now) r after
moved (Take place) r after = IsTaken r place after

-- the number of commits before the plan of a restore, if there is one that is not over
abbrev pub commits_at : Option (Option OpenRestore) → Option ℕ
commits_at (Some (Some r)) = Some r.commits
commits_at (Some None) = None
commits_at None = None

-- restores as the relation has them
abbrev pub seen_all : List Job → List (List Volume) → List (Option OpenRestore) → List (Option machine.Restore)
seen_all jobs stages restores = map (option_map (restore_of jobs stages)) restores

-- the two lists correspond to one list of the relation
abbrev pub AreSeenAs : List (Option OpenRestore) → List (Option OpenRestore) → Type 0
AreSeenAs before after = (jobs : List Job) (stages : List (List Volume)) → seen_all jobs stages after ≡ seen_all jobs stages before

-- The restore of this number makes the move. No restore is changed if memory runs out, or if none
-- of this number can make the move.
abbrev pub OneMoves :
    (machine.Restore → Type 0) → (machine.Restore → machine.Restore → Type 0) → ℕ → List (Option OpenRestore) → List (Option OpenRestore)
    → Result (Unit {0}) StepFault → Type 0
OneMoves Premise Move number before after (Ok _) =
    (r : OpenRestore) × (r' : OpenRestore) × (slice_get before number ≡ Some (Some r)) × (after ≡ set before number (Some r')) × MovesIf Premise Move r r' (Ok tt)
OneMoves Premise Move number before after (Err fault) =
    AreSeenAs before after
    × ((fault ≡ Memory)
    ⊎ ((fault ≡ NotEnabled) × ((r : OpenRestore) → slice_get before number ≡ Some (Some r) → CannotMove Premise Move r)))

-- No restore is changed: memory runs out, or there is no restore of this number with everything
-- read and taken.
abbrev pub NoneDelivers : ℕ → List (Option OpenRestore) → List (Option OpenRestore) → StepFault → Type 0
NoneDelivers number before after fault =
    AreSeenAs before after
    × ((fault ≡ Memory)
    ⊎ ((fault ≡ NotEnabled) × ((r : OpenRestore) → slice_get before number ≡ Some (Some r) → TellsWhole r false)))

-- The restore of this number, with everything read and taken, gives its files, and is then over.
abbrev pub OneDelivers : {X : Type 0} → (X → List Restored) → ℕ → List (Option OpenRestore) → List (Option OpenRestore) → Result X StepFault → Type 0
OneDelivers said number before after (Ok given) =
    (r : OpenRestore) × (slice_get before number ≡ Some (Some r)) × TellsWhole r true × (said given ≡ files r.joiner.hits (Some r.plan.names))
    × (after ≡ set before number None)
OneDelivers said number before after (Err fault) = NoneDelivers number before after fault
