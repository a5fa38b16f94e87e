-- The database that is shown for a catalogue's file and its log.
use Rattle.std.specs.Prelude.{◌≡◌, ◌<◌, ◌≤◌, List, ℕ, [], length, Option}
use Rattle.sqlite_wal.specs.Recovery.{Image}
use Rattle.sqlite.specs.State.{State, HasCleanDisk}
use Rattle.sqlite.specs.Start.{FindsIn}
use Rattle.br_store.specs.Scene.{Scene}
use Rattle.br_store.specs.Moments.{AreAtOnce, WhileKept}
use Rattle.br_store.specs.declared.look_fault.LookFault.{LookFault}
use Rattle.br_store.specs.declared.look_fault.LookFault.TheVariants.{Memory}

-- a database's file and its log
abbrev pub together : List ℕ → List ℕ → Image
together bytes log = record { log = log; db = bytes }

-- a database's file with no log
abbrev pub alone : List ℕ → Image
alone bytes = record { log = []; db = bytes }

-- the file has bytes, or its log has no room for the headers of itself and of a page
abbrev pub HasFile : List ℕ → List ℕ → Type 0
HasFile bytes log = length bytes ≡ 0 → length log < 56

-- the file has no bytes, and its log has room for these headers
abbrev pub IsGone : List ℕ → List ℕ → Type 0
IsGone bytes log = (length bytes ≡ 0) × (56 ≤ length log)

-- on a clean disk the state is the database that a file and its log hold together
abbrev pub ShowsIn : Image → State → Type 0
ShowsIn image state = HasCleanDisk state → FindsIn image state

-- at some moment of a time the file was there, and it and its log held together the database that is shown
pub record IsSeen (scenes : ℕ → Scene) (from to : ℕ) (state : State) : Type 0 where
  pub bytes : List ℕ
  pub log : List ℕ
  pub copied : AreAtOnce scenes from to bytes log
  pub present : HasFile bytes log
  pub shows : ShowsIn (together bytes log) state

-- the database that is shown was in the files in a time, if the scenes are told and show their changes
abbrev pub ShowsFiles : Option (ℕ → Scene) → ℕ → ℕ → State → Type 0
ShowsFiles told from to state = WhileKept told (λ scenes. IsSeen scenes from to state)

-- the number of the refusal: 1 out of memory, 45 a catalogue that can't be read
abbrev pub look_number : LookFault → ℕ
look_number Memory = 1
look_number _ = 45
