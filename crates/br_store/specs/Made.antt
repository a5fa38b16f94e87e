-- A catalogue under construction.
use Rattle.std.specs.Prelude.{◌≡◌, ◌⊎◌, ℕ, List, [], ◌∷◌, Bool, false, if◌then◌else◌, Option, None, Some, Result, IsTrue}
use Rattle.std.specs.Borrow.{Bor}
use Rattle.std.specs.List.{AllByRecursion}
use Rattle.sqlite.specs.Table.{Table}
use Rattle.sqlite.specs.Schema.{Schema}
use Rattle.sqlite.specs.Effect.{Database, IsDatabase}
use Rattle.sqlite.specs.State.{State, IsUnchanged}
use Rattle.sqlite.specs.Order.{Row, column}
use Rattle.sqlite.specs.Tree.{Trees}
use Rattle.br_model.specs.Answer.{Answers}
use Rattle.br_model.specs.Job.{JobRows}
use Rattle.br_catalog_rows.specs.Decode.{natural}
use Rattle.br_catalog_rows.specs.Load.{is_read, read_history}
use Rattle.br_catalog_rows.specs.Fault.{IsStoreFault, cause}
use Rattle.br_catalog_rows.specs.declared.fault.StoreFault.{StoreFault}
use Rattle.br_catalog_rows.specs.declared.fault.StoreFault.TheVariants.{BadCatalogue, Memory, OldCatalogue}
use Rattle.br_catalog_rows.specs.Rows.{no_rows}
use Rattle.br_catalog_tables.specs.Tables.{no_schema}
use Rattle.br_store.specs.Held.{HasTables, HasVersions, looked_at, rows_in, versions_in}

-- a database with these tables, which have no row
pub record HasEmptied (schema : Schema) (db : Database) : Type 0 where
  pub is : db.schema ≡ schema
  pub empty : AllByRecursion (λ (t : Table). db.trees t.tree ≡ []) schema.tables

-- the transaction goes on with these tables, and nothing is committed
pub record MakesTables (schema : Schema) (old new : State) : Type 0 where
  pub was_open : IsTrue new.is_open → IsTrue old.is_open
  pub mode : IsTrue new.in_transaction
  pub committed : new.committed ≡ old.committed
  pub emptied : HasEmptied schema new.now

-- a catalogue with no job
pub record IsMade (db : Database) : Type 0 where
  pub tables : HasTables db
  pub rows : rows_in db.trees ≡ no_rows

-- the transaction goes on with such a catalogue, and nothing is committed
pub record HasMade (old new : State) : Type 0 where
  pub was_open : IsTrue new.is_open → IsTrue old.is_open
  pub mode : IsTrue new.in_transaction
  pub committed : new.committed ≡ old.committed
  pub made : IsMade new.now

-- the versions are the one row 1
abbrev pub is_first : List Row → Bool
is_first (row ∷ []) = is_read 1 (natural (column row 0))
is_first _ = false

-- the versions are the one row 2
abbrev pub is_second : List Row → Bool
is_second (row ∷ []) = is_read 2 (natural (column row 0))
is_second _ = false

-- The refusal that the versions decide: the one row 1 is an old catalogue, and anything but the one
-- row 2 a bad one.
abbrev pub version_refusal : List Row → Option StoreFault
version_refusal versions = if is_first versions then Some OldCatalogue else (if is_second versions then None else Some BadCatalogue)

-- why a catalogue is not opened: the store failed or refused, or the catalogue is of version 1 or of
-- another one
abbrev pub IsOpenFault : StoreFault → Type 0
IsOpenFault fault = IsStoreFault fault ⊎ ((fault ≡ OldCatalogue) ⊎ (fault ≡ BadCatalogue))

-- The store failed or refused; or the database has the table of the version, whose rows decide the
-- refusal, and is unchanged.
abbrev pub IsWhy : State → State → StoreFault → Type 0
IsWhy old new fault =
    IsStoreFault fault ⊎ (HasVersions old.now × (version_refusal (versions_in old.now.trees) ≡ Some fault) × IsUnchanged old new)

-- why the jobs are not loaded: the store failed or refused, memory ran out, or the rows form no
-- history
abbrev pub IsLoadFault : StoreFault → Type 0
IsLoadFault fault = IsStoreFault fault ⊎ ((fault ≡ Memory) ⊎ (fault ≡ BadCatalogue))

-- the jobs that the rows which are looked at form are loaded, or refused
abbrev pub LoadsAs : Option (Bor (List ℕ)) → Trees → Result (List JobRows) StoreFault → Type 0
LoadsAs wanted trees result = Answers (λ (h : List JobRows). h) cause result (read_history (looked_at wanted (rows_in trees)))

-- opening keeps the database that it finds, or makes a catalogue with no job in a database with no
-- table
abbrev pub Finds : Database → Database → Type 0
Finds before after = (after.trees ≡ before.trees) ⊎ (IsDatabase (record before { schema = no_schema }) × IsMade after)
