-- What becomes of a job that is committed.
use Rattle.std.specs.Prelude.{◌≡◌, ℕ, ◌⊎◌, List, [], ◌∷◌, ◌++◌, Result, Ok, Err, ⊤}
use Rattle.br_model.specs.Job.{JobRows}
use Rattle.br_model.specs.Session.{Written}
use Rattle.br_history.specs.Saving.{ToCommit}
use Rattle.br_history.specs.Taken.{admitted}
use Rattle.br_keeper.specs.Beginnings.{Beginning, beginning}
use Rattle.br_keeper.specs.Publishing.{all_published, with_added}
use Rattle.br_keeper.specs.declared.job_store.JobStoreFault.{JobStoreFault}
use Rattle.br_keeper.specs.declared.fault.KeeperFault.{KeeperFault}
use Rattle.br_keeper.specs.declared.fault.KeeperFault.TheVariants.{Memory, DuplicateJob, DuplicateSession, BadRow, RetiredVolume, Volume as VolumeFails, Store, StoredNotPublished, BadCatalogue}
use Rattle.br_keeper.specs.Fault.{of_store_fault}
use Rattle.br_keeper.specs.Vouching.{starts_of}
use Rattle.br_history.specs.Preparing.{AreTooLong, IsSession}
use Rattle.br_keeper.specs.Writing.{Shelf, IsKept, IsRetired, IsLengthRefused, AreWrittenFrom, IsCutOffFrom, IsUnsyncedFrom}
use Rattle.br_keeper.specs.Keeping.{Keeping, jobs_of}

-- the vouched lengths at which the blocks of a job begin
abbrev pub starts_for : List JobRows → ToCommit → Shelf → List (List ℕ × ℕ)
starts_for history c old = starts_of old.vouches history c.places

-- The row of the job can be appended to the history, and its session was written from the vouched
-- lengths on.
pub record IsReady (history : List JobRows) (c : ToCommit) (old : Shelf) (rows : JobRows) (written : Written) : Type 0 where
  pub admits : admitted history c.row ≡ Ok history
  pub session : IsSession c (starts_for history c old) rows written

-- neither the catalogue nor a volume nor a vouched length is changed
abbrev pub IsUntouched : {C : Type 0} → C → C → Shelf → Shelf → Type 0
IsUntouched before after old new = (after ≡ before) × IsKept old new

-- all blocks of the session are appended, and then the catalogue is changed in one way for its rows
pub record IsWrittenTo {C : Type 0} (change : JobRows → C → C → Type 0) (history : List JobRows) (c : ToCommit) (before after : C) (old new : Shelf) (rows : JobRows) : Type 0 where
  pub written : Written
  pub ready : IsReady history c old rows written
  pub blocks : AreWrittenFrom (starts_for history c old) written.blocks old new
  pub catalogue : change rows before after

-- the session is ready, and a volume of its places is retired
pub record MeetsRetired (history : List JobRows) (c : ToCommit) (old : Shelf) : Type 0 where
  pub rows : JobRows
  pub written : Written
  pub ready : IsReady history c old rows written
  pub retired : IsRetired old.vouches old.volumes (starts_for history c old)

-- the session is ready, and the store failed to return the length of a volume of its places
pub record MeetsFailedLength (history : List JobRows) (c : ToCommit) (old new : Shelf) : Type 0 where
  pub rows : JobRows
  pub written : Written
  pub ready : IsReady history c old rows written
  pub refused : IsLengthRefused (starts_for history c old) old new

-- the session is ready, and the append of one of its blocks failed
pub record MeetsFailure (history : List JobRows) (c : ToCommit) (old new : Shelf) : Type 0 where
  pub rows : JobRows
  pub written : Written
  pub ready : IsReady history c old rows written
  pub cut_off : IsCutOffFrom (starts_for history c old) written.blocks old new

-- the session is ready and all its blocks are appended, and the sync of a volume of its spans failed
pub record MeetsFailedSync (history : List JobRows) (c : ToCommit) (old new : Shelf) : Type 0 where
  pub rows : JobRows
  pub written : Written
  pub ready : IsReady history c old rows written
  pub unsynced : IsUnsyncedFrom (starts_for history c old) written.blocks rows.spans old new

-- 44: the store of volumes failed at a length, at an append, or at a sync
abbrev pub MeetsFailedStore : List JobRows → ToCommit → Shelf → Shelf → Type 0
MeetsFailedStore history c old new =
    MeetsFailedLength history c old new ⊎ (MeetsFailure history c old new ⊎ MeetsFailedSync history c old new)

-- a span would end too late, though the row can be appended to the history
abbrev pub IsTooLong : List JobRows → ToCommit → Shelf → Type 0
IsTooLong history c old = (admitted history c.row ≡ Ok history) × AreTooLong c (starts_for history c old)

-- why a job is refused before anything of it is stored: its number is there, or its session; a span
-- would end too far; a volume is retired; or memory runs out
abbrev pub IsReason : List JobRows → ToCommit → Shelf → KeeperFault → Type 0
IsReason history c old Memory = ⊤
IsReason history c old DuplicateJob = admitted history c.row ≡ Err 40
IsReason history c old DuplicateSession = admitted history c.row ≡ Err 41
IsReason history c old BadRow = IsTooLong history c old
IsReason history c old RetiredVolume = MeetsRetired history c old
IsReason history c old VolumeFails = ⊥
IsReason history c old Store = ⊥
IsReason history c old StoredNotPublished = ⊥
IsReason history c old BadCatalogue = ⊥

-- What becomes of a job that is to be stored, among these others. After the early refusals, in this
-- order, the store of volumes fails, or the catalogue. Memory may run out before the first append.
abbrev pub StoresJob : {C : Type 0} → (JobRows → C → C → Type 0) → (JobRows → C → C → Type 0) → List JobRows → ToCommit → C → C → Shelf → Shelf → Result JobRows KeeperFault → Type 0
StoresJob inserts refuses history c before after old new (Ok rows) = IsWrittenTo inserts history c before after old new rows
StoresJob inserts refuses history c before after old new (Err Memory) = IsUntouched before after old new
StoresJob inserts refuses history c before after old new (Err VolumeFails) =
    (after ≡ before) × MeetsFailedStore history c old new
StoresJob inserts refuses history c before after old new (Err Store) = (rows : JobRows) × IsWrittenTo refuses history c before after old new rows
StoresJob inserts refuses history c before after old new (Err StoredNotPublished) = ⊥
StoresJob inserts refuses history c before after old new (Err BadCatalogue) = ⊥
StoresJob inserts refuses history c before after old new (Err why) = IsUntouched before after old new × IsReason history c old why

-- the result for a job that is to be stored after those that a keeper has published
abbrev pub Stores : {C W : Type 0} → (JobRows → C → C → Type 0) → (JobRows → C → C → Type 0) → (Keeping C W → Shelf) → ToCommit → Keeping C W → Keeping C W → Result JobRows KeeperFault → Type 0
Stores inserts refuses shelf c old new result =
    StoresJob inserts refuses (old.list.opening ++ old.list.published) c old.catalogue new.catalogue (shelf old) (shelf new) result

-- The result for a job that is committed. A job that waits is published first, unless memory runs
-- out. Then the job is stored, and then published with a receipt; if memory runs out for that, it
-- waits from then on.
abbrev pub Commits : {C W : Type 0} → (JobRows → C → C → Type 0) → (JobRows → C → C → Type 0) → (Keeping C W → Shelf) → ToCommit → Keeping C W → Keeping C W → Result Beginning KeeperFault → Type 0
Commits inserts refuses shelf c old new (Ok receipt) =
    (rows : JobRows) × IsWrittenTo inserts (jobs_of old) c old.catalogue new.catalogue (shelf old) (shelf new) rows
    × (new.list ≡ all_published (with_added old.list rows)) × (receipt ≡ beginning old.list.book (old.list.added ++ rows ∷ []))
Commits inserts refuses shelf c old new (Err StoredNotPublished) =
    (rows : JobRows) × IsWrittenTo inserts (jobs_of old) c old.catalogue new.catalogue (shelf old) (shelf new) rows
    × (new.list ≡ with_added (all_published old.list) rows)
Commits inserts refuses shelf c old new (Err Memory) =
    IsUntouched old.catalogue new.catalogue (shelf old) (shelf new) × ((new.list ≡ old.list) ⊎ (new.list ≡ all_published old.list))
Commits inserts refuses shelf c old new (Err why) =
    StoresJob inserts refuses (jobs_of old) c old.catalogue new.catalogue (shelf old) (shelf new) (Err why) × (new.list ≡ all_published old.list)

-- why a keeper was not made: memory ran out, or the catalogue could not be loaded
abbrev pub IsNotMade : {C : Type 0} → (C → C → Result (List JobRows) JobStoreFault → Type 0) → C → KeeperFault → Type 0
IsNotMade {C} loads catalogue why =
    (why ≡ Memory) ⊎ ((after : C) × (fault : JobStoreFault) × loads catalogue after (Err fault) × (why ≡ of_store_fault fault))
