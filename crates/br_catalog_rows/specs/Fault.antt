-- The refusals of the catalogue.
use Rattle.std.specs.Prelude.{◌≡◌, ℕ, Option, Some, None}
use Rattle.sqlite.specs.declared.error.Error.{Error}
use Rattle.br_history.specs.declared.fault.HistoryFault.{HistoryFault}
use Rattle.br_history.specs.declared.fault.HistoryFault.TheVariants as rows
use Rattle.br_types.specs.declared.fault.NameFault.{NameFault}
use Rattle.br_types.specs.declared.fault.NameFault.TheVariants as names
use Rattle.br_catalog_rows.specs.declared.fault.RowsFault.{RowsFault}
use Rattle.br_catalog_rows.specs.declared.fault.RowsFault.TheVariants as read
use Rattle.br_catalog_rows.specs.declared.fault.StoreFault.{StoreFault}
use Rattle.br_catalog_rows.specs.declared.fault.StoreFault.TheVariants.{Memory, Store, BadCatalogue, OldCatalogue}

-- the number of a refusal
abbrev pub fault_number : StoreFault → ℕ
fault_number Memory = 1
fault_number (Store why) = 45
fault_number BadCatalogue = 47
fault_number OldCatalogue = 48

-- the refusal that the catalogue decides; none if memory ran out or the store failed
abbrev pub cause : StoreFault → Option ℕ
cause Memory = None
cause (Store why) = None
cause BadCatalogue = Some 47
cause OldCatalogue = Some 48

-- the refusal that the rows decide; none if memory ran out
abbrev pub rows_cause : RowsFault → Option ℕ
rows_cause read.Memory = None
rows_cause read.BadRows = Some 47

-- rows that form no history are a bad catalogue, and out of memory is out of memory
abbrev pub of_rows_fault : RowsFault → StoreFault
of_rows_fault read.Memory = Memory
of_rows_fault read.BadRows = BadCatalogue

-- a bad name or path is a bad row, and out of memory is out of memory
abbrev pub of_name_fault : NameFault → RowsFault
of_name_fault names.Memory = read.Memory
of_name_fault names.BadName = read.BadRows
of_name_fault names.BadPath = read.BadRows

-- a failure or a refusal of the store, with its cause
abbrev pub IsStoreFault : StoreFault → Type 0
IsStoreFault fault = (why : Error) × (fault ≡ Store why)

-- jobs that form no history are bad rows
abbrev pub of_history_fault : HistoryFault → RowsFault
of_history_fault rows.Memory = read.Memory
of_history_fault rows.DuplicateJob = read.BadRows
of_history_fault rows.DuplicateSession = read.BadRows
of_history_fault rows.BadRow = read.BadRows
