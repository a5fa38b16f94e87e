-- Why no session began.
use Rattle.std.specs.Prelude.{ℕ}
use Rattle.br_sink_folder.specs.Fault.{folder_fault_number}
use Rattle.br_plan.specs.RequestWords as request
use Rattle.br_keeper.specs.Catalogue.{catalogue_number}
use Rattle.br_cli_target.specs.TarEnding.{tar_fault_number}
use Rattle.br_cli_console.specs.declared.console_command.ConsoleStartFault.{ConsoleStartFault}
use Rattle.br_cli_console.specs.declared.console_command.ConsoleStartFault.TheVariants.{Memory, Request, Folder, Tar, Catalogue}

-- the number of the refusal
abbrev pub start_number : ConsoleStartFault → ℕ
start_number Memory = 1
start_number (Request fault) = request.fault_number fault
start_number (Folder fault) = folder_fault_number fault
start_number (Tar fault) = tar_fault_number fault
start_number (Catalogue fault) = catalogue_number fault
