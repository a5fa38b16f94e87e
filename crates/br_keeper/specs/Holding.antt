-- The jobs that the volumes of a keeper hold.
use Rattle.std.specs.Prelude.{◌≡◌, ℕ, ◌≤◌, true, false, List, [], ◌∷◌, ◌++◌, length, map, Option, None, IfSome, Result, Ok, Err}
use Rattle.std.specs.List.{AllByRecursion}
use Rattle.br_model.specs.Volume.{Volume, LaidBlock, AreLaid}
use Rattle.br_model.specs.Job.{JobRows, Job}
use Rattle.br_model.specs.Stored.{Holds}
use Rattle.br_model.specs.Session.{ToSave}
use Rattle.br_model.specs.SessionHolds.{bytes_of_volume}
use Rattle.br_history.specs.Saving.{ToCommit}
use Rattle.br_volume.specs.Store.{MayBeLeft}
use Rattle.br_keeper.specs.declared.vouched_lengths.Vouch.{Vouch}
use Rattle.br_keeper.specs.Beginnings.{Beginning}
use Rattle.br_keeper.specs.Publishing.{all_published, with_added}
use Rattle.br_keeper.specs.declared.fault.KeeperFault.{KeeperFault}
use Rattle.br_keeper.specs.declared.fault.KeeperFault.TheVariants.{Store, StoredNotPublished}
use Rattle.br_keeper.specs.Vouching.{end_of_jobs, is_retired, vouched}
use Rattle.br_keeper.specs.Writing.{Shelf}
use Rattle.br_keeper.specs.Keeping.{Keeping, jobs_of}
use Rattle.br_keeper.specs.Outcomes.{Backing, Lasting}

-- the job with these rows
abbrev pub job_with : ToCommit → JobRows → Job
job_with c rows = record { rows = rows; saved = map (λ (f : ToSave). f.file) c.files }

-- the rows of jobs
abbrev pub rows_in : List Job → List JobRows
rows_in jobs = map (λ (j : Job). j.rows) jobs

-- the bytes of a volume are whole blocks, one after the other
abbrev pub AreBlocks : List ℕ → Type 0
AreBlocks bytes = (blocks : List LaidBlock) × AreLaid bytes None (λ _. true) blocks

-- The jobs have these rows, and the volumes hold each. No volume is shorter than its vouched
-- length. One that is just as long, and is not retired, consists of whole blocks.
pub record AreStanding (vouches : List Vouch) (rows : List JobRows) (jobs : List Job) (volumes : List Volume) : Type 0 where
  pub rows_are : rows_in jobs ≡ rows
  pub hold : AllByRecursion (Holds volumes) jobs
  pub long : (name : List ℕ) → vouched vouches rows name ≤ length (bytes_of_volume volumes name)
  pub whole : (name : List ℕ) → is_retired vouches name ≡ false → vouched vouches rows name ≡ length (bytes_of_volume volumes name)
      → AreBlocks (bytes_of_volume volumes name)

-- a volume that ends where the spans of the jobs do that it holds consists of whole blocks
abbrev pub HeldVolumesAreWhole : Type 0
HeldVolumesAreWhole =
    (volumes : List Volume) (jobs : List Job) (name : List ℕ) → AllByRecursion (Holds volumes) jobs
    → end_of_jobs name (rows_in jobs) ≡ length (bytes_of_volume volumes name) → AreBlocks (bytes_of_volume volumes name)

-- the volumes hold the job, if they are told
abbrev pub IsHeld : Option (List Volume) → Job → Type 0
IsHeld told job = IfSome told (λ volumes. Holds volumes job)

-- the volumes hold each of the jobs, if they are told
abbrev pub AreHeld : Option (List Volume) → List Job → Type 0
AreHeld told jobs = IfSome told (λ volumes. AllByRecursion (Holds volumes) jobs)

module _ {C W : Type 0} where
  -- A keeper stands: it has stored these jobs, and its volumes hold each, if they are told. Each
  -- volume to which it may append consists of whole blocks.
  abbrev pub Stands : (Keeping C W → Shelf) → List Job → Keeping C W → Type 0
  Stands shelf jobs k = IfSome (shelf k).volumes (AreStanding (shelf k).vouches (jobs_of k) jobs)

  -- the keeper stands if its volumes hold the jobs that it has stored
  abbrev pub StandsIfHeld : (Keeping C W → Shelf) → Keeping C W → Type 0
  StandsIfHeld shelf k = (jobs : List Job) → rows_in jobs ≡ jobs_of k → AreHeld (shelf k).volumes jobs → Stands shelf jobs k

  -- a keeper that stood stands with the same jobs
  abbrev pub StandsOn : (Keeping C W → Shelf) → Keeping C W → Keeping C W → Type 0
  StandsOn shelf old new = (jobs : List Job) → Stands shelf jobs old → Stands shelf jobs new

  -- The keeper stands after a commit. It stands with a job that was stored, published or not. The
  -- volumes hold one that the catalogue refused, too.
  abbrev pub StandsWith : Backing C W → ToCommit → List Job → Keeping C W → Keeping C W → Result Beginning KeeperFault → Type 0
  StandsWith b c jobs old new (Ok receipt) =
      (rows : JobRows) × (new.list ≡ all_published (with_added old.list rows))
      × IsHeld (b.shelf new).volumes (job_with c rows) × Stands b.shelf (jobs ++ job_with c rows ∷ []) new
  StandsWith b c jobs old new (Err StoredNotPublished) =
      (rows : JobRows) × (new.list ≡ with_added (all_published old.list) rows)
      × IsHeld (b.shelf new).volumes (job_with c rows) × Stands b.shelf (jobs ++ job_with c rows ∷ []) new
  StandsWith b c jobs old new (Err Store) =
      (rows : JobRows) × b.refuses rows old.catalogue new.catalogue
      × IsHeld (b.shelf new).volumes (job_with c rows) × Stands b.shelf jobs new
  StandsWith b c jobs old new (Err why) = Stands b.shelf jobs new

  -- The volumes hold the job of a commit, if they held those that the keeper had stored.
  abbrev pub HoldsJob : Backing C W → ToCommit → Keeping C W → Keeping C W → Result Beginning KeeperFault → Type 0
  HoldsJob b c old new result = (jobs : List Job) → Stands b.shelf jobs old → StandsWith b c jobs old new result

  -- A crash leaves these jobs: what is durable of the keeper's volumes holds each, if its volumes are
  -- told, and what is durable of them.
  abbrev pub Outlast : Lasting C W → List Job → Keeping C W → Type 0
  Outlast on jobs k = IfSome (on.backing.shelf k).volumes (λ volumes. AreHeld (on.durable k.volumes) jobs)

  -- A crash after a commit leaves these jobs, and the job of the commit, too: one whose rows the
  -- catalogue inserted, published or not, and one whose rows it refused. A crash may leave these.
  abbrev pub OutlastWith : Lasting C W → ToCommit → List Job → Keeping C W → Keeping C W → Result Beginning KeeperFault → Type 0
  OutlastWith on c jobs old new (Ok receipt) =
      (rows : JobRows) × (new.list ≡ all_published (with_added old.list rows)) × on.backing.inserts rows old.catalogue new.catalogue
      × Outlast on (jobs ++ job_with c rows ∷ []) new
  OutlastWith on c jobs old new (Err StoredNotPublished) =
      (rows : JobRows) × (new.list ≡ with_added (all_published old.list) rows) × on.backing.inserts rows old.catalogue new.catalogue
      × Outlast on (jobs ++ job_with c rows ∷ []) new
  OutlastWith on c jobs old new (Err Store) =
      (rows : JobRows) × on.backing.refuses rows old.catalogue new.catalogue × Outlast on (jobs ++ job_with c rows ∷ []) new
  OutlastWith on c jobs old new (Err why) = Outlast on jobs new

  -- A crash after a commit leaves its job, if one before it left those that the keeper had stored.
  abbrev pub OutlastsCrash : Lasting C W → ToCommit → Keeping C W → Keeping C W → Result Beginning KeeperFault → Type 0
  OutlastsCrash on c old new result =
      (jobs : List Job) → Stands on.backing.shelf jobs old → Outlast on jobs old → OutlastWith on c jobs old new result

-- whatever a crash leaves of volumes holds the jobs that are held by what is durable of them
abbrev pub CrashesLeaveJobs : Type 0
CrashesLeaveJobs =
    (volumes durable left : List Volume) (jobs : List Job) → AllByRecursion (Holds durable) jobs → MayBeLeft volumes durable left
    → AllByRecursion (Holds left) jobs
