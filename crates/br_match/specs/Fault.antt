-- The numbers and causes of the refusals of a piece.
use Rattle.std.specs.Prelude.{◌≡◌, ℕ, ◌<◌, List, Option, Some, None, Result, IfErr, ⊤}
use Rattle.br_model.specs.Meaning as model
use Rattle.br_match.specs.declared.fault.PieceCause.{PieceCause}
use Rattle.br_match.specs.declared.fault.PieceCause.TheVariants.{BadId, BadBlockSize, Truncated, DriveFault, UnknownVolume}
use Rattle.br_match.specs.declared.fault.PieceFault.{PieceFault}
use Rattle.br_match.specs.declared.fault.PieceFault.TheVariants.{Memory, Block}

-- the number of a refusal at a block
abbrev pub cause_number : PieceCause → ℕ
cause_number BadId = 10
cause_number BadBlockSize = 11
cause_number Truncated = 12
cause_number DriveFault = 13
cause_number UnknownVolume = 14

-- the number of a refusal
abbrev pub fault_number : PieceFault → ℕ
fault_number Memory = 1
fault_number (Block why vol addr) = cause_number why

-- the volume of a refusal
abbrev pub fault_volume : PieceFault → Option (List ℕ)
fault_volume Memory = None
fault_volume (Block why vol addr) = Some vol

-- the address of a refusal
abbrev pub fault_address : PieceFault → Option ℕ
fault_address Memory = None
fault_address (Block why vol addr) = Some addr

-- the address in a refusal at this address; an unknown volume is refused at address 0
abbrev pub named_address : PieceCause → ℕ → ℕ
named_address BadId addr = addr
named_address BadBlockSize addr = addr
named_address Truncated addr = addr
named_address DriveFault addr = addr
named_address UnknownVolume addr = 0

-- the refusal names this volume and this address, unless memory ran out
abbrev pub IsAt : List ℕ → ℕ → PieceFault → Type 0
IsAt volume address Memory = ⊤
IsAt volume address (Block why vol addr) = (vol ≡ volume) × (addr ≡ named_address why address)

-- a refusal with this number
abbrev pub refused_with : ℕ → List ℕ → ℕ → Option model.PieceFault
refused_with number vol addr = Some (record { number = number; volume = vol; address = addr })

-- the refusal that the volumes decide; none if the drive failed
abbrev pub refusal : PieceCause → List ℕ → ℕ → Option model.PieceFault
refusal DriveFault vol addr = None
refusal BadId vol addr = refused_with 10 vol addr
refusal BadBlockSize vol addr = refused_with 11 vol addr
refusal Truncated vol addr = refused_with 12 vol addr
refusal UnknownVolume vol addr = refused_with 14 vol addr

-- the refusal that the volumes decide; none if memory ran out or the drive failed
abbrev pub cause : PieceFault → Option model.PieceFault
cause Memory = None
cause (Block why vol addr) = refusal why vol addr

-- If the result is refused with a drive's failure, the drive failed during the call.
abbrev pub FailsWithDrive : {D A : Type 0} → (D → ℕ) → D → D → Result A PieceFault → Type 0
FailsWithDrive failures before after result = IfErr result (λ fault. fault_number fault ≡ 13 → failures before < failures after)
