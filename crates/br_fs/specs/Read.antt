-- The result of several reads of a file.
use Rattle.std.specs.Prelude.{◌≡◌, ℕ, ◌+◌, ◌^◌, ◌<◌, ◌≤◌, ◌⊎◌, List, [], length, take, drop, Option, Some, None, Result, Ok, Err, ⊤}
use Rattle.br_fs.specs.Tree.{Tree}
use Rattle.br_fs.specs.Calls.{HasFile}
use Rattle.br_fs.specs.declared.fault.DiskFault.{DiskFault}
use Rattle.br_fs.specs.declared.fault.DiskFault.TheVariants.{NotFound, Exists, Interrupted, Memory, Failed}

-- a disk that fails by itself, or is interrupted a thousand times
abbrev pub MayFail : Option ℕ → Type 0
MayFail None = ⊤
MayFail (Some interrupts) = 1000 ≤ interrupts

-- only such a disk makes a call fail
abbrev pub FailsOnly : {A : Type 0} → Option ℕ → Result A DiskFault → Type 0
FailsOnly steady (Ok x) = ⊤
FailsOnly steady (Err NotFound) = ⊤
FailsOnly steady (Err Exists) = ⊤
FailsOnly steady (Err Memory) = ⊤
FailsOnly steady (Err Interrupted) = MayFail steady
FailsOnly steady (Err Failed) = MayFail steady

-- nothing is read, or the bytes are those of the file from the address on, maybe not all
abbrev pub IsFront : Option Tree → List ℕ → ℕ → List ℕ → Type 0
IsFront told path address front =
    (front ≡ []) ⊎ HasFile told path (λ bytes. (front ≡ take (length front) (drop address bytes)) × (length bytes < 2 ^ 63))

-- the file ends after these bytes
abbrev pub IsEnd : Option Tree → List ℕ → ℕ → List ℕ → Type 0
IsEnd told path address front = HasFile told path (λ bytes. (length bytes ≤ address + length front) × (length bytes < 2 ^ 63))

-- the next `wanted` bytes of the file from the address, or all that are left
abbrev pub IsWhole : Option Tree → List ℕ → ℕ → ℕ → List ℕ → Type 0
IsWhole told path address wanted buffer = HasFile told path (λ bytes. (buffer ≡ take wanted (drop address bytes)) × (length bytes < 2 ^ 63))
