-- The target that the options of a command ask for.
use Rattle.std.specs.Prelude.{ℕ, Bool, true, false, List, Option, Some, None}
use Rattle.br_cli_common.specs.declared.options.Target.{Target}
use Rattle.br_cli_common.specs.declared.options.Target.TheVariants.{Nowhere, Folder, TarFile, TarOutput}

-- the folder that the restored files go into, if any
abbrev pub folder_asked : Target → Option (List ℕ)
folder_asked Nowhere = None
folder_asked (Folder folder) = Some folder.now
folder_asked (TarFile file) = None
folder_asked TarOutput = None

-- true if the stream that the restored files go into is standard output, if they go into a stream
abbrev pub stream_asked : Target → Option Bool
stream_asked Nowhere = None
stream_asked (Folder folder) = None
stream_asked (TarFile file) = Some false
stream_asked TarOutput = Some true
