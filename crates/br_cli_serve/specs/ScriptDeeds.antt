-- The changes of a keeper: jobs are committed, and bytes are appended to volumes.
use Rattle.std.specs.Prelude.{◌≡◌, ℕ, ◌⊎◌, List, [], ◌∷◌, Option, Result, Ok, Err, OnOk, ⊤}
use Rattle.std.specs.Io.KnownBytes.{Appends, Keeps}
use Rattle.std.specs.List.{AllByRecursion}
use Rattle.br_model.specs.Volume.{Volume}
use Rattle.br_model.specs.Job.{JobRows}
use Rattle.br_model.specs.Text.{refused_line}
use Rattle.br_history.specs.Saving.{ToCommit}
use Rattle.br_volume.specs.Store.{AppendsTo, AppendsInPartTo, Failures, FailsOn}
use Rattle.br_keeper.specs.Beginnings.{Beginning}
use Rattle.br_keeper.specs.Sessions.{Known}
use Rattle.br_keeper.specs.declared.fault.KeeperFault.{KeeperFault}
use Rattle.br_keeper.specs.declared.job_store.JobStore as jobs
use Rattle.br_volume.specs.declared.volume_store.VolumeStore as store
use Rattle.br_keeper.specs.Committing.{Commits}
use Rattle.br_keeper.specs.Keeping.{Keeping, shelf_of}
use Rattle.br_cli_serve.specs.ScriptKeeper.{HasLearned}

-- a job to be committed and the result, or a volume and the bytes that are appended to it
pub data Deed : Type 0 where
  Commit : ToCommit → Result Beginning KeeperFault → Deed
  Append : List ℕ → List ℕ → Deed

-- the bytes, or a first part of them, are appended to the volume, and nothing else is changed
abbrev pub AppendsRaw : {C W : Type 0} → (W → Option (List Volume)) → List ℕ → List ℕ → Keeping C W → Keeping C W → Type 0
AppendsRaw holds volume bytes old new =
    (AppendsTo volume bytes (holds old.volumes) (holds new.volumes) ⊎ AppendsInPartTo volume bytes (holds old.volumes) (holds new.volumes))
    × (new ≡ record old { volumes = new.volumes })

-- The bytes are appended to the volume, and nothing is written. Or the store failed, a first part
-- of the bytes is appended, and the refusal is written.
abbrev pub AnswersBytes : {C W E : Type 0} → (W → Option (List Volume)) → (W → Failures) → List ℕ → List ℕ → Keeping C W → Keeping C W
    → Option (List ℕ) → Option (List ℕ) → Result (Unit {0}) E → Type 0
AnswersBytes holds failures volume bytes old new before after result =
    (AppendsTo volume bytes (holds old.volumes) (holds new.volumes) × Keeps before after)
    ⊎ (AppendsInPartTo volume bytes (holds old.volumes) (holds new.volumes) × FailsOn volume (failures old.volumes) (failures new.volumes)
    × OnOk result (Appends before after (refused_line 44)))

-- one deed is done
abbrev pub DoesOne : {C W : Type 0} → (JobRows → C → C → Type 0) → (JobRows → C → C → Type 0) → (W → Option (List Volume)) → (W → Failures)
    → Deed → Keeping C W → Keeping C W → Type 0
DoesOne inserts refuses holds failures (Commit c result) old new = Commits inserts refuses (shelf_of holds failures) c old new result
DoesOne inserts refuses holds failures (Append volume bytes) old new = AppendsRaw holds volume bytes old new

-- if a deed gave a receipt, the session has learned it
abbrev pub KnowsDeed : Option Known → Deed → Type 0
KnowsDeed session (Commit c (Ok receipt)) = HasLearned receipt session
KnowsDeed session (Commit c (Err why)) = ⊤
KnowsDeed session (Append volume bytes) = ⊤

-- nothing is changed, or one deed is done, and the session has learned its receipt
abbrev pub DoesFew : {C W : Type 0} → (JobRows → C → C → Type 0) → (JobRows → C → C → Type 0) → (W → Option (List Volume)) → (W → Failures)
    → Option Known → Keeping C W → Keeping C W → Type 0
DoesFew inserts refuses holds failures session old new =
    (new ≡ old) ⊎ ((deed : Deed) × DoesOne inserts refuses holds failures deed old new × KnowsDeed session deed)

-- these deeds are done one after another, the first of the list last
abbrev pub DoesAll : {C W : Type 0} → (JobRows → C → C → Type 0) → (JobRows → C → C → Type 0) → (W → Option (List Volume)) → (W → Failures)
    → List Deed → Keeping C W → Keeping C W → Type 0
DoesAll inserts refuses holds failures [] old new = new ≡ old
DoesAll {C} {W} inserts refuses holds failures (deed ∷ earlier) old new =
    (middle : Keeping C W) × DoesAll inserts refuses holds failures earlier old middle × DoesOne inserts refuses holds failures deed middle new

-- some deeds are done one after another, and nothing else
abbrev pub DoesSome : {C W : Type 0} → jobs.Ghosts C → store.Ghosts W → Keeping C W → Keeping C W → Type 0
DoesSome jobs volumes old new = (deeds : List Deed) × DoesAll jobs.inserts jobs.refuses volumes.holds volumes.failures deeds old new

-- the same, and the session has learned each receipt
abbrev pub Does : {C W : Type 0} → (JobRows → C → C → Type 0) → (JobRows → C → C → Type 0) → (W → Option (List Volume)) → (W → Failures)
    → Option Known → Keeping C W → Keeping C W → Type 0
Does inserts refuses holds failures session old new =
    (deeds : List Deed) × DoesAll inserts refuses holds failures deeds old new × AllByRecursion (KnowsDeed session) deeds
