-- The effect of serving, and the contents of a reply.
use Rattle.std.specs.Prelude.{◌≡◌, ℕ, List, [], ◌∷◌, ◌++◌, Result, Ok, Err, Option, Some}
use Rattle.logbook.specs.Pages.{Book}
use Rattle.br_model.specs.Job.{JobRows, Job}
use Rattle.br_history.specs.Saving.{ToCommit}
use Rattle.br_keeper.specs.Beginnings.{Beginning, last_id}
use Rattle.br_keeper.specs.Publishing.{Publishing}
use Rattle.br_keeper.specs.declared.fault.KeeperFault.{KeeperFault}
use Rattle.br_keeper.specs.declared.fault.KeeperFault.TheVariants.{StoredNotPublished}
use Rattle.br_keeper.specs.Keeping.{Keeping}
use Rattle.br_keeper.specs.Committing.{Commits}
use Rattle.br_keeper.specs.Outcomes.{Lasting}
use Rattle.br_keeper.specs.Holding.{HoldsJob, Outlast, OutlastsCrash, Stands, job_with}

-- the number of the job that was asked for, and the receipt or the refusal
pub record Replied : Type 0 where
  pub job : ℕ
  pub receipt : Result Beginning KeeperFault

-- the list of a receipt; this one if there is no receipt
abbrev pub book_or : Book → Result Beginning KeeperFault → Book
book_or book (Ok r) = r.book
book_or book (Err e) = book

-- the number of the last job of a receipt; this one if there is no receipt
abbrev pub last_or : ℕ → Result Beginning KeeperFault → Option ℕ
last_or id (Ok r) = last_id r.log
last_or id (Err e) = Some id

-- if there is a receipt, it is of this list and of this job
abbrev pub IsReply : Book → ℕ → Result Beginning KeeperFault → Type 0
IsReply book id r = (book_or book r ≡ book) × (last_or id r ≡ Some id)

-- the same list with more jobs stored, or none
abbrev pub HasServed : Publishing → Publishing → Type 0
HasServed a b = (b.book ≡ a.book) × (b.opening ≡ a.opening) × ((more : List JobRows) × (b.added ≡ a.added ++ more))

-- a commit: the job, its result, and the keeper after it
pub record Step (C W : Type 0) : Type 0 where
  pub job : ToCommit
  pub result : Result Beginning KeeperFault
  pub after : Keeping C W

module _ {C W : Type 0} where
  -- the keeper after the job was committed, or refused
  abbrev pub IsCommit : Lasting C W → ToCommit → Keeping C W → Keeping C W → Result Beginning KeeperFault → Type 0
  IsCommit on c old new result =
      Commits on.backing.inserts on.backing.refuses on.backing.shelf c old new result × HoldsJob on.backing c old new result
      × OutlastsCrash on c old new result

  -- the keeper after these commits, one after the other
  abbrev pub AreCommits : Lasting C W → List (Step C W) → Keeping C W → Keeping C W → Type 0
  AreCommits on [] old new = new ≡ old
  AreCommits on (step ∷ steps) old new = IsCommit on step.job old step.after step.result × AreCommits on steps step.after new

  -- the keeper after some commits
  abbrev pub IsLeftByCommits : Lasting C W → Keeping C W → Keeping C W → Type 0
  IsLeftByCommits on old new = (steps : List (Step C W)) × AreCommits on steps old new

-- a job is the first of these, and the others come after it
abbrev pub IsFirst : ToCommit → (List Job → Type 0) → List Job → Type 0
IsFirst c others jobs = (rows : JobRows) × (rest : List Job) × (jobs ≡ job_with c rows ∷ rest) × others rest

-- the job is the first of these if it was stored, published or not
abbrev pub StoresFirst : ToCommit → Result Beginning KeeperFault → (List Job → Type 0) → List Job → Type 0
StoresFirst c (Ok receipt) others jobs = IsFirst c others jobs
StoresFirst c (Err StoredNotPublished) others jobs = IsFirst c others jobs
StoresFirst c (Err why) others jobs = others jobs

module _ {C W : Type 0} where
  -- these jobs were stored by the commits, one after the other, each with the files that it saved
  abbrev pub AreStored : List (Step C W) → List Job → Type 0
  AreStored [] jobs = jobs ≡ []
  AreStored (step ∷ steps) jobs = StoresFirst step.job step.result (AreStored steps) jobs

  -- a keeper that stood stands after commits, with the jobs that they stored
  abbrev pub CommitsStand : Lasting C W → Type 0
  CommitsStand on =
      (steps : List (Step C W)) (old new : Keeping C W) (jobs : List Job) → AreCommits on steps old new → Stands on.backing.shelf jobs old
      → (more : List Job) × AreStored steps more × Stands on.backing.shelf (jobs ++ more) new

  -- a keeper whose jobs a crash would leave keeps them so through commits, with the jobs that these stored
  abbrev pub CommitsOutlast : Lasting C W → Type 0
  CommitsOutlast on =
      (steps : List (Step C W)) (old new : Keeping C W) (jobs : List Job) → AreCommits on steps old new → Stands on.backing.shelf jobs old
      → Outlast on jobs old → (more : List Job) × AreStored steps more × Stands on.backing.shelf (jobs ++ more) new × Outlast on (jobs ++ more) new
