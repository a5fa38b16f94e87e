-- What the contracts of calls state about a database, before and after a call.
use Rattle.std.specs.Prelude.{◌≡◌, false, IsTrue}
use Rattle.std.specs.Borrow.{MutBor}
use Rattle.std.specs.List.{AllByRecursion}
use Rattle.sqlite.specs.Schema.{Schema}
use Rattle.sqlite.specs.Table.{Table}
use Rattle.sqlite.specs.Tree.{Trees}
use Rattle.sqlite.specs.View.{IsShaped}
use Rattle.sqlite.specs.Effect.{Database}
use Rattle.sqlite.specs.Held.{Held, state}
use Rattle.sqlite.specs.State.{State, HasCleanDisk, Opens, Survives}
use Rattle.sqlite_trees.specs.declared.store.Shape.TheVariants.{Table as Shaped}
use Rattle.sqlite_trees.specs.declared.store.Store.{Ghosts}
use Rattle.br_model.specs.Job.{JobRows}
use Rattle.br_catalog_rows.specs.Inserted.{Adds}
use Rattle.br_store.specs.Held.{HasTables, HasVersions, rows_in}
use Rattle.br_store.specs.Made.{HasEmptied, IsMade}

-- ---- premises

-- the claim holds of a database if its disk has returned what was written to it
abbrev pub WhileClean : {S : Type 0} → Ghosts S → Held S → (State → Type 0) → Type 0
WhileClean g held claim = HasCleanDisk (state g held) → claim (state g held)

-- each table of a database has its rows in ascending order
abbrev pub AreRising : Database → Type 0
AreRising db = AllByRecursion (λ (t : Table). IsShaped Shaped (db.trees t.tree)) db.schema.tables

-- The connection was just opened. No transaction is open and, if the disk has returned what was
-- written to it, the database is open, all visible data is committed, and the rows of each table
-- ascend.
pub record IsJustOpened {S : Type 0} (g : Ghosts S) (h : Held S) : Type 0 where
  pub idle : h.in_transaction ≡ false
  pub opens : WhileClean g h Opens
  pub rising : WhileClean g h (λ is. AreRising is.now)

-- the claim holds of the database before and after the call if the disk has returned what was
-- written to it
abbrev pub OnCleanDisk : {S : Type 0} → Ghosts S → Held S → Held S → (State → State → Type 0) → Type 0
OnCleanDisk g old new claim = HasCleanDisk (state g new) → claim (state g old) (state g new)

-- the claim holds on a clean disk if the database had the catalogue's tables
abbrev pub OnTables : {S : Type 0} → Ghosts S → Held S → Held S → (State → State → Type 0) → Type 0
OnTables g old new claim = OnCleanDisk g old new (λ before after. HasTables before.now → claim before after)

-- the claim holds on a clean disk if a transaction was open
abbrev pub InTransaction : {S : Type 0} → Ghosts S → Held S → Held S → (State → State → Type 0) → Type 0
InTransaction g old new claim = OnCleanDisk g old new (λ before after. IsTrue old.in_transaction → claim before after)

-- the claim holds on a clean disk if a transaction was open on a database with the catalogue's
-- tables
abbrev pub InCatalogue : {S : Type 0} → Ghosts S → Held S → Held S → (State → State → Type 0) → Type 0
InCatalogue g old new claim = InTransaction g old new (λ before after. HasTables before.now → claim before after)

-- the claim holds on a clean disk if a transaction was open on a database with just these tables,
-- which had no row
abbrev pub InEmptied : {S : Type 0} → Schema → Ghosts S → Held S → Held S → (State → State → Type 0) → Type 0
InEmptied schema g old new claim = InTransaction g old new (λ before after. HasEmptied schema before.now → claim before after)

-- ---- what holds after a call

-- the transaction still borrows the same connection
abbrev pub BorrowsSame : {T : Type 0} → MutBor T → MutBor T → Type 0
BorrowsSame old new = new.ghost_name ≡ old.ghost_name

-- no fault is forgotten, and a crash leaves only what it could leave before the call
abbrev pub CommitsNothing : {S : Type 0} → Ghosts S → Held S → Held S → Type 0
CommitsNothing g old new = Survives (state g old) (state g new) (λ _. ⊥)

-- no fault is forgotten, and a crash leaves what it could leave before the call, or a catalogue with
-- no job
abbrev pub MayMake : {S : Type 0} → Ghosts S → Held S → Held S → Type 0
MayMake g old new = Survives (state g old) (state g new) (λ trees. (db : Database) × IsMade db × (trees ≡ db.trees))

-- these are the trees of a catalogue that has the rows of this database, and the job
abbrev pub HasAdded : JobRows → Database → Trees → Type 0
HasAdded job before trees = (db : Database) × HasTables db × Adds job (rows_in before.trees) (rows_in db.trees) × (trees ≡ db.trees)

-- no fault is forgotten, and a crash leaves what it could leave before the call, or a catalogue to
-- which the job was added
abbrev pub MayCommit : {S : Type 0} → Ghosts S → Held S → Held S → JobRows → Type 0
MayCommit g old new job = Survives (state g old) (state g new) (λ trees. HasAdded job (state g old).now trees)

-- the database has the catalogue's tables, if its disk is clean
abbrev pub IsReadable : {S : Type 0} → Ghosts S → Held S → Type 0
IsReadable g held = WhileClean g held (λ database. HasTables database.now)

-- the database has the table of the version, if its disk is clean
abbrev pub ShowsVersions : {S : Type 0} → Ghosts S → Held S → Type 0
ShowsVersions g held = WhileClean g held (λ database. HasVersions database.now)

-- a call that begins outside a transaction ends outside a transaction
abbrev pub StaysIdle : {S : Type 0} → Held S → Held S → Type 0
StaysIdle old new = old.in_transaction ≡ false → new.in_transaction ≡ false

-- the visible and the committed database are unchanged
abbrev pub IsSame : State → State → Type 0
IsSame old new = (new.now ≡ old.now) × (new.committed ≡ old.committed)

-- if all visible data was committed, and the database is open afterwards, its visible and committed
-- data are unchanged
abbrev pub KeepsSettled : State → State → Type 0
KeepsSettled old new = old.now ≡ old.committed → IsTrue new.is_open → IsSame old new

-- if the database is open it was open before, and its visible and committed data are unchanged
abbrev pub Stays : State → State → Type 0
Stays old new = IsTrue new.is_open → IsTrue old.is_open × (new.now ≡ old.now) × (new.committed ≡ old.committed)

-- while the database is open, all visible data is committed
abbrev pub IsSettled : State → Type 0
IsSettled s = IsTrue s.is_open → s.now ≡ s.committed

-- the database is open, and all visible data is committed
abbrev pub IsCommitted : State → Type 0
IsCommitted s = IsTrue s.is_open × (s.now ≡ s.committed)

-- a crash now leaves the visible rows of the catalogue
abbrev pub IsDurable : State → Type 0
IsDurable s = (trees : Trees) → s.may_leave trees → rows_in trees ≡ rows_in s.now.trees

-- the job was new, and its rows are added
abbrev pub AddsJob : JobRows → State → State → Type 0
AddsJob job old new = Adds job (rows_in old.now.trees) (rows_in new.now.trees)
