-- What each outcome of a commit says, taken apart and put together.
use Rattle.std.proofs.Common.{◌≡◌, Result, Ok, Err, IfOk, IfErr, refl, subst}
use Rattle.br_model.specs.Job.{JobRows}
use Rattle.br_history.specs.Saving.{ToCommit}
use Rattle.br_keeper.specs.Beginnings.{Beginning}
use Rattle.br_keeper.specs.declared.fault.KeeperFault.{KeeperFault}
use Rattle.br_keeper.specs.declared.fault.KeeperFault.TheVariants.{Memory, DuplicateJob, DuplicateSession, BadRow, RetiredVolume, Volume, Store, StoredNotPublished, BadCatalogue}
use Rattle.br_keeper.specs.Writing.{AreDurable, Shelf}
use Rattle.br_keeper.specs.Keeping.{Keeping, jobs_of}
use Rattle.br_keeper.specs.Committing.{Commits, IsWrittenTo}
use Rattle.br_keeper.specs.Outcomes.{AppendsFrontAndRetires, Backing, CommitsDurably, IsEarly, Lasting, OnlyAppends, Refuses, StoresAndPublishes, StoresUnpublished}

module _ {C W : Type 0} (inserts refuses : JobRows → C → C → Type 0) (shelf : Keeping C W → Shelf) (c : ToCommit) (old new : Keeping C W) where
  abbrev pub over : Backing C W
  over = record { inserts = inserts; refuses = refuses; shelf = shelf }

  pub stored_of : (r : Result Beginning KeeperFault) → Commits inserts refuses shelf c old new r → IfOk r (StoresAndPublishes over c old new)
  stored_of (Ok receipt) is = is
  stored_of (Err why) is = tt

  pub waits_of : (r : Result Beginning KeeperFault) → Commits inserts refuses shelf c old new r → r ≡ Err StoredNotPublished → StoresUnpublished over c old new
  waits_of r is e = subst (λ (s : Result Beginning KeeperFault). Commits inserts refuses shelf c old new s) e is

  pub blocks_of : (r : Result Beginning KeeperFault) → Commits inserts refuses shelf c old new r → r ≡ Err Store → OnlyAppends over c old new
  blocks_of r is e = subst (λ (s : Result Beginning KeeperFault). Commits inserts refuses shelf c old new s) e is

  pub torn_of : (r : Result Beginning KeeperFault) → Commits inserts refuses shelf c old new r → r ≡ Err Volume → AppendsFrontAndRetires over c old new
  torn_of r is e = subst (λ (s : Result Beginning KeeperFault). Commits inserts refuses shelf c old new s) e is

  pub refused_of : (r : Result Beginning KeeperFault) → Commits inserts refuses shelf c old new r
      → IfErr r (λ why. IsEarly why → Refuses over c old new why)
  refused_of (Ok receipt) is = tt
  refused_of (Err Memory) is = λ _. is
  refused_of (Err DuplicateJob) is = λ _. is
  refused_of (Err DuplicateSession) is = λ _. is
  refused_of (Err BadRow) is = λ _. is
  refused_of (Err RetiredVolume) is = λ _. is
  refused_of (Err Volume) is = λ early. absurd early
  refused_of (Err Store) is = λ early. absurd early
  refused_of (Err StoredNotPublished) is = λ early. absurd early
  refused_of (Err BadCatalogue) is = absurd is.0

  -- all outcomes together
  pub commits_of : (r : Result Beginning KeeperFault) → IfOk r (StoresAndPublishes over c old new) → (r ≡ Err StoredNotPublished → StoresUnpublished over c old new)
      → (r ≡ Err Store → OnlyAppends over c old new) → (r ≡ Err Volume → AppendsFrontAndRetires over c old new)
      → IfErr r (λ why. IsEarly why → Refuses over c old new why) → Commits inserts refuses shelf c old new r
  commits_of (Ok receipt) stored waits blocks torn refused = stored
  commits_of (Err StoredNotPublished) stored waits blocks torn refused = waits refl
  commits_of (Err Store) stored waits blocks torn refused = blocks refl
  commits_of (Err Volume) stored waits blocks torn refused = torn refl
  commits_of (Err Memory) stored waits blocks torn refused = refused tt
  commits_of (Err DuplicateJob) stored waits blocks torn refused = refused tt
  commits_of (Err DuplicateSession) stored waits blocks torn refused = refused tt
  commits_of (Err BadRow) stored waits blocks torn refused = refused tt
  commits_of (Err RetiredVolume) stored waits blocks torn refused = refused tt
  commits_of (Err BadCatalogue) stored waits blocks torn refused = absurd (refused tt).0.1

-- ---- whose blocks are durable

module _ {C W : Type 0} (on : Lasting C W) (c : ToCommit) (old new : Keeping C W) where
  -- the catalogue is changed, whatever else holds of the rows
  written_plain : (change : JobRows → C → C → Type 0) (P : JobRows → Type 0) (rows : JobRows)
      → IsWrittenTo (λ rows before after. change rows before after × P rows) (jobs_of old) c old.catalogue new.catalogue (on.backing.shelf old) (on.backing.shelf new) rows
      → IsWrittenTo change (jobs_of old) c old.catalogue new.catalogue (on.backing.shelf old) (on.backing.shelf new) rows
  written_plain change P rows is = record { written = is.written; ready = is.ready; blocks = is.blocks; catalogue = is.catalogue.0 }

  abbrev AreLasting : JobRows → Type 0
  AreLasting rows = AreDurable rows.spans (on.backing.shelf new).volumes (on.durable new.volumes)

  pub committed : (r : Result Beginning KeeperFault) → CommitsDurably on c old new r → Commits on.backing.inserts on.backing.refuses on.backing.shelf c old new r
  committed (Ok receipt) is = (is.0, written_plain on.backing.inserts AreLasting is.0 is.1, is.2, is.3)
  committed (Err StoredNotPublished) is = (is.0, written_plain on.backing.inserts AreLasting is.0 is.1, is.2)
  committed (Err Store) is = ((is.0.0, written_plain on.backing.refuses AreLasting is.0.0 is.0.1), is.1)
  committed (Err Memory) is = is
  committed (Err DuplicateJob) is = is
  committed (Err DuplicateSession) is = is
  committed (Err BadRow) is = is
  committed (Err RetiredVolume) is = is
  committed (Err Volume) is = is
  committed (Err BadCatalogue) is = is
