-- The database and the volumes that a crash leaves after a commit, and what an opening finds.
use Rattle.std.specs.Prelude.{◌≡◌, ◌⊎◌, List, [], ◌∷◌, ◌++◌, Some, Result, Ok, Err}
use Rattle.std.specs.List.{AllByRecursion}
use Rattle.sqlite.specs.Effect.{Database}
use Rattle.sqlite.specs.Held.{Held, state}
use Rattle.sqlite.specs.State.{HasCleanDisk}
use Rattle.sqlite_trees.specs.declared.store.Store.{Ghosts}
use Rattle.br_model.specs.Job.{JobRows, Job}
use Rattle.br_model.specs.Stored.{Holds}
use Rattle.br_model.specs.Volume.{Volume}
use Rattle.br_history.specs.Saving.{ToCommit}
use Rattle.br_volume.specs.Store.{MayBeLeft}
use Rattle.br_volume.specs.declared.volume_store.VolumeStore as volumes
use Rattle.br_keeper.specs.Beginnings.{Beginning}
use Rattle.br_keeper.specs.Publishing.{all_published, with_added}
use Rattle.br_keeper.specs.Committing.{Commits}
use Rattle.br_keeper.specs.Keeping.{Keeping, shelf_of}
use Rattle.br_keeper.specs.Outcomes.{Lasting}
use Rattle.br_keeper.specs.Holding.{Outlast, Stands, job_with}
use Rattle.br_keeper.specs.Channel.{IsCommit}
use Rattle.br_keeper.specs.Writing.{Shelf}
use Rattle.br_keeper.specs.declared.fault.KeeperFault.{KeeperFault}
use Rattle.br_keeper.specs.declared.fault.KeeperFault.TheVariants.{Store, StoredNotPublished}
use Rattle.br_catalog_rows.specs.Inserted.{Adds}
use Rattle.br_catalog_rows.specs.Rows.{Rows}
use Rattle.br_store.specs.Calls.{IsCommitted}
use Rattle.br_store.specs.Held.{IsCatalogue, rows_of, rows_in}
use Rattle.br_store.specs.Kept.{Inserts, Refuses}
use Rattle.br_store.specs.Made.{Finds}

-- A job that is stored survives a crash, also if it is not published. One that the database refused
-- may have been written. Any other refusal leaves the database as it was.
abbrev pub Outlives : {S W : Type 0} → Ghosts S → Keeping (Held S) W → Keeping (Held S) W → Result Beginning KeeperFault → Type 0
Outlives g old new (Ok receipt) =
    (rows : JobRows) × (new.list ≡ all_published (with_added old.list rows)) × Inserts g rows old.catalogue new.catalogue
Outlives g old new (Err StoredNotPublished) =
    (rows : JobRows) × (new.list ≡ with_added (all_published old.list) rows) × Inserts g rows old.catalogue new.catalogue
Outlives g old new (Err Store) = (rows : JobRows) × Refuses g rows old.catalogue new.catalogue
Outlives g old new (Err why) = new.catalogue ≡ old.catalogue

-- the database that a crash leaves after any commit to it and to volumes
abbrev pub CommitsOutlive : {S W : Type 0} → Ghosts S → (Keeping (Held S) W → Shelf) → Type 0
CommitsOutlive {S} {W} g shelf =
    (job : ToCommit) (old new : Keeping (Held S) W) (result : Result Beginning KeeperFault)
    → Commits (Inserts g) (Refuses g) shelf job old new result → Outlives g old new result

-- Whatever an opening finds of a database that a crash leaves after a call: its rows are those before
-- the call, or these with the job.
abbrev pub FindsWhole : {S : Type 0} → Ghosts S → JobRows → Held S → Held S → Type 0
FindsWhole g job old new =
    (left found : Database) → HasCleanDisk (state g new) → (state g new).may_leave left.trees → Finds left found
    → (rows_in found.trees ≡ rows_of g old) ⊎ Adds job (rows_of g old) (rows_in found.trees)

-- so it is after each refused insertion into an open catalogue, also one that shut it
abbrev pub RefusalsAreWhole : {S : Type 0} → Ghosts S → Type 0
RefusalsAreWhole {S} g =
    (job : JobRows) (old new : Held S) → IsCatalogue g old → IsCommitted (state g old) → Refuses g job old new → FindsWhole g job old new

-- ---- the database and the volumes

-- what backs a keeper over a catalogue in a database and over volumes
abbrev pub stored_on : {S W : Type 0} → Ghosts S → volumes.Ghosts W → Lasting (Held S) W
stored_on g store = record {
  backing = record { inserts = Inserts g; refuses = Refuses g; shelf = shelf_of store.holds store.failures };
  durable = store.durable;
}

-- What a crash leaves of a keeper's database and of its volumes, if these are told, and what an
-- opening finds of the database then.
pub record IsLeft {S W : Type 0} (g : Ghosts S) (on : Lasting (Held S) W) (k : Keeping (Held S) W) (found : Database) (left : List Volume) : Type 0 where
  pub clean : HasCleanDisk (state g k.catalogue)
  pub database : Database
  pub may_be : (state g k.catalogue).may_leave database.trees
  pub finds : Finds database found
  pub told : List Volume
  pub are_told : (on.backing.shelf k).volumes ≡ Some told
  pub durable : List Volume
  pub are_durable : on.durable k.volumes ≡ Some durable
  pub may_be_left : MayBeLeft told durable left

-- the rows are those of before, and the volumes hold their jobs
abbrev pub AreAsBefore : Rows → Rows → List Job → List Volume → Type 0
AreAsBefore before found jobs left = (found ≡ before) × AllByRecursion (Holds left) jobs

-- the rows have the job of a commit, too, and the volumes hold it with the others
abbrev pub HaveJob : Rows → Rows → List Job → ToCommit → List Volume → Type 0
HaveJob before found jobs c left =
    (rows : JobRows) × Adds rows before found × AllByRecursion (Holds left) (jobs ++ job_with c rows ∷ [])

-- A job that is stored is found, published or not. One that the catalogue refused may be found. Any
-- other is not.
abbrev pub IsFoundBy : Result Beginning KeeperFault → Type 0 → Type 0 → Type 0
IsFoundBy (Ok receipt) same added = added
IsFoundBy (Err StoredNotPublished) same added = added
IsFoundBy (Err Store) same added = same ⊎ added
IsFoundBy (Err why) same added = same

-- If the volumes held the jobs of an open catalogue, and a crash before a commit had left them so,
-- a crash after it leaves volumes that hold each job of which an opening finds the rows.
abbrev pub CrashesLeaveFoundJobs : {S W : Type 0} → Ghosts S → Lasting (Held S) W → Type 0
CrashesLeaveFoundJobs {S} {W} g on =
    (c : ToCommit) (old new : Keeping (Held S) W) (result : Result Beginning KeeperFault) (jobs : List Job) (found : Database) (left : List Volume)
    → IsCommit on c old new result → Stands on.backing.shelf jobs old → Outlast on jobs old
    → IsCatalogue g old.catalogue → IsCommitted (state g old.catalogue) → IsLeft g on new found left
    → IsFoundBy result (AreAsBefore (rows_of g old.catalogue) (rows_in found.trees) jobs left)
    (HaveJob (rows_of g old.catalogue) (rows_in found.trees) jobs c left)
