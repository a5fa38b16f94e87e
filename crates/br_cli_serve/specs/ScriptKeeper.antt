-- A keeper, and the session that takes the snapshots of a script.
use Rattle.std.specs.Prelude.{◌≡◌, ℕ, ◌⊎◌, List, Option, Some, None, MatchOption, Result, Ok, Err, OnOk}
use mathlib.Core.List.{IsPrefix}
use Rattle.std.specs.Io.KnownBytes.{Appends, Keeps}
use Rattle.br_model.specs.Job.{JobRows}
use Rattle.br_history.specs.Saving.{ToCommit}
use Rattle.br_keeper.specs.Beginnings.{Beginning, last_id}
use Rattle.br_keeper.specs.Sessions.{Known, Extends}
use Rattle.br_keeper.specs.declared.fault.KeeperFault.{KeeperFault}
use Rattle.br_keeper.specs.Committing.{Commits}
use Rattle.br_keeper.specs.Keeping.{Keeping}
use Rattle.br_keeper.specs.Writing.{Shelf}
use Rattle.br_cli_serve.specs.ScriptAnswering.{commit_line, refusal_at}

-- the session is there, and reads the keeper's list
abbrev pub IsOwn : {C W : Type 0} → Option Known → Keeping C W → Type 0
IsOwn session keeper = MatchOption session ⊥ (λ s. s.book ≡ keeper.list.book)

-- the session is there, and knows that the job of the receipt is published
abbrev pub HasLearned : Beginning → Option Known → Type 0
HasLearned receipt session = MatchOption session ⊥ (λ s. IsPrefix receipt.log s.list)

-- the session is as before, or it goes on from what it knew
abbrev pub SeesMore : Option Known → Option Known → Type 0
SeesMore before after = (after ≡ before) ⊎ MatchOption before ⊥ (λ s. MatchOption after ⊥ (λ t. Extends s t))

-- a snapshot of the session is taken, and the session is missing then; or none is, and the session
-- is as before
abbrev pub TakesSnapshot : Option Known → Option Known → Option Known → Type 0
TakesSnapshot before after taken = MatchOption taken (after ≡ before) (λ view. (after ≡ None) × MatchOption before ⊥ (λ s. Extends s view))

-- The keeper commits the job. If it gives a receipt, its job's number is returned, and the session has
-- learned it.
abbrev pub CommitsAt : {C W : Type 0} → (JobRows → C → C → Type 0) → (JobRows → C → C → Type 0) → (Keeping C W → Shelf) → ToCommit
    → Keeping C W → Keeping C W → Option Known → Result ℕ KeeperFault → Type 0
CommitsAt inserts refuses shelf c old new session (Ok id) =
    (receipt : Beginning) × Commits inserts refuses shelf c old new (Ok receipt) × (last_id receipt.log ≡ Some id) × HasLearned receipt session
CommitsAt inserts refuses shelf c old new session (Err why) = Commits inserts refuses shelf c old new (Err why)

-- A job is committed, and its line is written: `stored` with its number if there is a receipt, else
-- the refusal.
abbrev pub AnswersCommit : {C W E : Type 0} → (JobRows → C → C → Type 0) → (JobRows → C → C → Type 0) → (Keeping C W → Shelf) → ToCommit
    → Keeping C W → Keeping C W → Option Known → Option (List ℕ) → Option (List ℕ) → Result (Unit {0}) E → Type 0
AnswersCommit inserts refuses shelf c old new session before after result =
    (r : Result ℕ KeeperFault) × CommitsAt inserts refuses shelf c old new session r × OnOk result (Appends before after (commit_line r))

-- The result for a job that ends: nothing if it was given up, else it is committed. If it can't be
-- committed, its refusal is written.
abbrev pub EndsJob : {C W E : Type 0} → (JobRows → C → C → Type 0) → (JobRows → C → C → Type 0) → (Keeping C W → Shelf) → ℕ
    → Keeping C W → Keeping C W → Option Known → Option (List ℕ) → Option (List ℕ) → Result (Unit {0}) E → Result (Option ToCommit) ℕ → Type 0
EndsJob inserts refuses shelf place old new session before after result (Ok None) = (new ≡ old) × OnOk result (Keeps before after)
EndsJob inserts refuses shelf place old new session before after result (Ok (Some c)) =
    AnswersCommit inserts refuses shelf c old new session before after result
EndsJob inserts refuses shelf place old new session before after result (Err n) =
    (new ≡ old) × OnOk result (Appends before after (refusal_at n place))
