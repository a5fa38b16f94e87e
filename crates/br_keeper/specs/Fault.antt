-- The refusals of a keeper.
use Rattle.std.specs.Prelude.{ℕ}
use Rattle.br_history.specs.declared.fault.HistoryFault.{HistoryFault}
use Rattle.br_history.specs.declared.fault.HistoryFault.TheVariants as history
use Rattle.br_keeper.specs.declared.job_store.JobStoreFault.{JobStoreFault}
use Rattle.br_keeper.specs.declared.job_store.JobStoreFault.TheVariants as catalogue
use Rattle.br_keeper.specs.declared.fault.KeeperFault.{KeeperFault}
use Rattle.br_keeper.specs.declared.fault.KeeperFault.TheVariants.{Memory, DuplicateJob, DuplicateSession, BadRow, RetiredVolume, Volume, Store, StoredNotPublished, BadCatalogue}

-- the number of a refusal
abbrev pub fault_number : KeeperFault → ℕ
fault_number Memory = 1
fault_number DuplicateJob = 40
fault_number DuplicateSession = 41
fault_number BadRow = 42
fault_number RetiredVolume = 43
fault_number Volume = 44
fault_number Store = 45
fault_number StoredNotPublished = 46
fault_number BadCatalogue = 47

-- the refusal of a history
abbrev pub of_history_fault : HistoryFault → KeeperFault
of_history_fault history.Memory = Memory
of_history_fault history.DuplicateJob = DuplicateJob
of_history_fault history.DuplicateSession = DuplicateSession
of_history_fault history.BadRow = BadRow

-- the refusal of a catalogue
abbrev pub of_store_fault : JobStoreFault → KeeperFault
of_store_fault catalogue.Memory = Memory
of_store_fault catalogue.Store = Store
of_store_fault catalogue.BadCatalogue = BadCatalogue
