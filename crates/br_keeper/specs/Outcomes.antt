-- What each outcome of a commit says.
use Rattle.std.specs.Prelude.{◌≡◌, ◌⊎◌, List, [], ◌∷◌, ◌++◌, Option, Result, ⊤}
use Rattle.br_model.specs.Volume.{Volume as VolumeOf}
use Rattle.br_model.specs.Job.{JobRows}
use Rattle.br_history.specs.Saving.{ToCommit}
use Rattle.br_volume.specs.declared.volume_store.VolumeStore as volumes
use Rattle.br_keeper.specs.declared.job_store.JobStore as jobs
use Rattle.br_keeper.specs.declared.fault.KeeperFault.{KeeperFault}
use Rattle.br_keeper.specs.declared.fault.KeeperFault.TheVariants.{Memory, Volume, Store, StoredNotPublished}
use Rattle.br_keeper.specs.Beginnings.{Beginning, beginning}
use Rattle.br_keeper.specs.Publishing.{all_published, with_added}
use Rattle.br_keeper.specs.Writing.{AreDurable, Shelf}
use Rattle.br_keeper.specs.Keeping.{Keeping, jobs_of, shelf_of}
use Rattle.br_keeper.specs.Committing.{Commits, IsReason, IsUntouched, IsWrittenTo, MeetsFailedStore, Stores}

-- what backs a keeper: how its catalogue inserts and refuses rows, and what its volumes hold
pub record Backing (C W : Type 0) : Type 1 where
  pub inserts : JobRows → C → C → Type 0
  pub refuses : JobRows → C → C → Type 0
  pub shelf : Keeping C W → Shelf

-- the backing of a keeper over these stores
abbrev pub backing : {C W : Type 0} → jobs.Ghosts C → volumes.Ghosts W → Backing C W
backing catalogue store = record { inserts = catalogue.inserts; refuses = catalogue.refuses; shelf = shelf_of store.holds store.failures }

-- the same, and what is durable of the volumes
pub record Lasting (C W : Type 0) : Type 1 where
  pub backing : Backing C W
  pub durable : W → Option (List VolumeOf)

-- that of a keeper over these stores
abbrev pub lasting : {C W : Type 0} → jobs.Ghosts C → volumes.Ghosts W → Lasting C W
lasting catalogue store = record { backing = backing catalogue store; durable = store.durable }

-- the backing of such a keeper, if its catalogue is changed for no rows but those whose blocks are durable
abbrev pub durably : {C W : Type 0} → Lasting C W → Keeping C W → Backing C W
durably on now = record {
  inserts = λ rows before after. on.backing.inserts rows before after × AreDurable rows.spans (on.backing.shelf now).volumes (on.durable now.volumes);
  refuses = λ rows before after. on.backing.refuses rows before after × AreDurable rows.spans (on.backing.shelf now).volumes (on.durable now.volumes);
  shelf = on.backing.shelf;
}

module _ {C W : Type 0} where
  -- the result for a job that is stored, whose blocks are durable before its rows are inserted
  abbrev pub StoresDurably : Lasting C W → ToCommit → Keeping C W → Keeping C W → Result JobRows KeeperFault → Type 0
  StoresDurably on c old new result = Stores (durably on new).inserts (durably on new).refuses on.backing.shelf c old new result

  -- the result for one that is committed
  abbrev pub CommitsDurably : Lasting C W → ToCommit → Keeping C W → Keeping C W → Result Beginning KeeperFault → Type 0
  CommitsDurably on c old new result = Commits (durably on new).inserts (durably on new).refuses on.backing.shelf c old new result

  -- All blocks are appended, no call of the store of volumes has failed, and the catalogue has the rows. All
  -- jobs are published, this one last, and the receipt is of them.
  abbrev pub StoresAndPublishes : Backing C W → ToCommit → Keeping C W → Keeping C W → Beginning → Type 0
  StoresAndPublishes b c old new receipt =
      (rows : JobRows) × IsWrittenTo b.inserts (jobs_of old) c old.catalogue new.catalogue (b.shelf old) (b.shelf new) rows
      × (new.list ≡ all_published (with_added old.list rows)) × (receipt ≡ beginning old.list.book (old.list.added ++ rows ∷ []))

  -- all blocks are appended, the catalogue has the rows, and the job waits to be published
  abbrev pub StoresUnpublished : Backing C W → ToCommit → Keeping C W → Keeping C W → Type 0
  StoresUnpublished b c old new =
      (rows : JobRows) × IsWrittenTo b.inserts (jobs_of old) c old.catalogue new.catalogue (b.shelf old) (b.shelf new) rows
      × (new.list ≡ with_added (all_published old.list) rows)

  -- all blocks are appended, and the catalogue refused the rows
  abbrev pub OnlyAppends : Backing C W → ToCommit → Keeping C W → Keeping C W → Type 0
  OnlyAppends b c old new =
      ((rows : JobRows) × IsWrittenTo b.refuses (jobs_of old) c old.catalogue new.catalogue (b.shelf old) (b.shelf new) rows)
      × (new.list ≡ all_published old.list)

  -- the catalogue is as before, and the volumes failed: at a length, or at an append or a sync, whose
  -- volume is retired
  abbrev pub AppendsFrontAndRetires : Backing C W → ToCommit → Keeping C W → Keeping C W → Type 0
  AppendsFrontAndRetires b c old new =
      ((new.catalogue ≡ old.catalogue) × MeetsFailedStore (jobs_of old) c (b.shelf old) (b.shelf new)) × (new.list ≡ all_published old.list)

  -- Nothing of the job is stored, for this reason. A job that waited is published, unless memory runs out
  -- for that.
  abbrev pub Refuses : Backing C W → ToCommit → Keeping C W → Keeping C W → KeeperFault → Type 0
  Refuses b c old new Memory =
      IsUntouched old.catalogue new.catalogue (b.shelf old) (b.shelf new) × ((new.list ≡ old.list) ⊎ (new.list ≡ all_published old.list))
  Refuses b c old new why =
      (IsUntouched old.catalogue new.catalogue (b.shelf old) (b.shelf new) × IsReason (jobs_of old) c (b.shelf old) why)
      × (new.list ≡ all_published old.list)

-- the refusals after the first append have clauses of their own
abbrev pub IsEarly : KeeperFault → Type 0
IsEarly Volume = ⊥
IsEarly Store = ⊥
IsEarly StoredNotPublished = ⊥
IsEarly why = ⊤
