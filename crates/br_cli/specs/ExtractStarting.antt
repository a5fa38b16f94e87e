-- Why no restore by a bootstrap began.
use Rattle.std.specs.Prelude.{ℕ}
use Rattle.br_cli.specs.declared.extract_command.ExtractStartFault.{ExtractStartFault}
use Rattle.br_cli.specs.declared.extract_command.ExtractStartFault.TheVariants.{Folder, Tar, Io, NoFile, Text}

-- 1 if the target is refused, 3 if the bootstrap can't be read
abbrev pub start_status : ExtractStartFault → ℕ
start_status (Folder fault) = 1
start_status (Tar fault) = 1
start_status (Io error) = 3
start_status NoFile = 3
start_status (Text fault) = 3
