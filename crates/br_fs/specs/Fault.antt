-- The fault for each error of the system.
use Rattle.std.specs.Prelude.{◌≡◌}
use Rattle.std.specs.declared.io.ErrorKind.{ErrorKind}
use Rattle.std.specs.declared.io.ErrorKind.TheVariants as io
use Rattle.br_fs.specs.declared.fault.DiskFault.{DiskFault}
use Rattle.br_fs.specs.declared.fault.DiskFault.TheVariants.{NotFound, Exists, Interrupted, Memory, Failed}

-- an error of no kind that has its own fault
abbrev pub IsElse : ErrorKind → Type 0
IsElse kind = (kind ≡ io.NotFound → ⊥) × (kind ≡ io.AlreadyExists → ⊥) × (kind ≡ io.Interrupted → ⊥) × (kind ≡ io.OutOfMemory → ⊥)

-- each fault stands for one kind of error, the last for all others
abbrev pub IsFaultOf : ErrorKind → DiskFault → Type 0
IsFaultOf kind NotFound = kind ≡ io.NotFound
IsFaultOf kind Exists = kind ≡ io.AlreadyExists
IsFaultOf kind Interrupted = kind ≡ io.Interrupted
IsFaultOf kind Memory = kind ≡ io.OutOfMemory
IsFaultOf kind Failed = IsElse kind
