-- The effects of the calls of a store of jobs on its database.
use Rattle.std.specs.Prelude.{ℕ, List, Option, Some, None, Result, OnOk, IsTrue}
use Rattle.sqlite.specs.Held.{Held}
use Rattle.sqlite_trees.specs.declared.store.Store.{Ghosts}
use Rattle.br_model.specs.Answer.{Answers}
use Rattle.br_model.specs.Job.{JobRows}
use Rattle.br_catalog_rows.specs.Load.{read_history}
use Rattle.br_catalog_rows.specs.declared.fault.StoreFault.{StoreFault}
use Rattle.br_catalog_rows.specs.declared.fault.StoreFault.TheVariants as store
use Rattle.br_store.specs.Held.{AddsMedia, rows_in}
use Rattle.br_store.specs.Calls.{AddsJob, CommitsNothing, IsCommitted, IsDurable, IsSame, MayCommit, OnCleanDisk}
use Rattle.br_keeper.specs.declared.job_store.JobStoreFault.{JobStoreFault}
use Rattle.br_keeper.specs.declared.job_store.JobStoreFault.TheVariants.{Memory, Store, BadCatalogue}

-- a store's refusal as the keeper's; a store that is open is not of version 1
abbrev pub of_fault : StoreFault → JobStoreFault
of_fault store.Memory = Memory
of_fault (store.Store why) = Store
of_fault store.BadCatalogue = BadCatalogue
of_fault store.OldCatalogue = Store

-- the refusal that the rows decide; none if memory ran out or the database failed
abbrev pub load_cause : JobStoreFault → Option ℕ
load_cause Memory = None
load_cause Store = None
load_cause BadCatalogue = Some 47

-- The job was new, its rows are added, each volume that was added has the type `File`, and all is
-- committed. A crash now leaves exactly these rows. A crash during the call left what it could leave
-- before, or these rows.
pub record Inserts {S : Type 0} (g : Ghosts S) (job : JobRows) (old new : Held S) : Type 0 where
  pub added : OnCleanDisk g old new (λ before after. AddsJob job before after)
  pub media : OnCleanDisk g old new (λ before after. AddsMedia before.now.trees after.now.trees)
  pub settled : OnCleanDisk g old new (λ before after. IsCommitted after)
  pub durable : OnCleanDisk g old new (λ before after. IsDurable after)
  pub crash : MayCommit g old new job

-- The job is not added, if the database is still open. A crash leaves what it could leave before,
-- or the rows with the job.
pub record Refuses {S : Type 0} (g : Ghosts S) (job : JobRows) (old new : Held S) : Type 0 where
  pub same : OnCleanDisk g old new (λ before after. IsTrue after.is_open → IsSame before after)
  pub crash : MayCommit g old new job

-- The history is that of the rows, and the rows are unchanged.
pub record Loads {S : Type 0} (g : Ghosts S) (old new : Held S) (result : Result (List JobRows) JobStoreFault) : Type 0 where
  pub answers : OnCleanDisk g old new (λ before after. Answers (λ h. h) load_cause result (read_history (rows_in before.now.trees)))
  pub same : OnCleanDisk g old new (λ before after. IsTrue after.is_open → IsSame before after)
  pub is_open : OnCleanDisk g old new (λ before after. OnOk result (IsTrue after.is_open))
  pub survives : CommitsNothing g old new
