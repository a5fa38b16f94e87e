-- The numbers of refusals.
use Rattle.std.specs.Prelude.{ℕ, false, ◌⊎◌, List, Option, ⊤}
use Rattle.br_fs.specs.Making.{Nodes, IsEmptyAt, IsNoFolder}
use Rattle.br_fs.specs.declared.fault.DiskFault.{DiskFault}
use Rattle.br_fs.specs.declared.fault.DiskFault.TheVariants as disk
use Rattle.br_sink.specs.declared.fault.SinkFault.{SinkFault}
use Rattle.br_sink.specs.declared.fault.SinkFault.TheVariants as sink
use Rattle.br_sink_folder.specs.declared.fault.FolderFault.{FolderFault}
use Rattle.br_sink_folder.specs.declared.fault.FolderFault.TheVariants.{Memory, NotEmpty}

-- of a folder
abbrev pub folder_fault_number : FolderFault → ℕ
folder_fault_number Memory = 1
folder_fault_number NotEmpty = 81

-- why there is no sink over the folder at a path: if the maker of its files does not fail by
-- itself, there is no folder or it is not empty
abbrev pub IsRefused : Type 0 → Option Nodes → List ℕ → FolderFault → Type 0
IsRefused steady nodes path Memory = ⊤
IsRefused steady nodes path NotEmpty = steady → IsNoFolder nodes path ⊎ IsEmptyAt nodes path false

-- the sink's fault for a fault of its files: memory that ran out is no failure of the sink
abbrev pub sink_fault : DiskFault → SinkFault
sink_fault disk.Memory = sink.Memory
sink_fault disk.NotFound = sink.Fault
sink_fault disk.Exists = sink.Fault
sink_fault disk.Interrupted = sink.Fault
sink_fault disk.Failed = sink.Fault
