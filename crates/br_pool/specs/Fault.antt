-- What a refusal of the pool means.
use Rattle.std.specs.Prelude.{◌≡◌, ℕ, List, Option, None, ⊤}
use Rattle.br_model.specs.Meaning as model
use Rattle.br_match.specs.Fault as piece
use Rattle.br_pool.specs.declared.fault.PoolFault.{PoolFault}
use Rattle.br_pool.specs.declared.fault.PoolFault.TheVariants.{Memory, Piece, NoDriveLeft}

-- the number of a refusal
abbrev pub fault_number : PoolFault → ℕ
fault_number Memory = 1
fault_number (Piece why) = piece.fault_number why
fault_number NoDriveLeft = 70

-- the volume of a refusal
abbrev pub fault_volume : PoolFault → Option (List ℕ)
fault_volume Memory = None
fault_volume (Piece why) = piece.fault_volume why
fault_volume NoDriveLeft = None

-- the address of a refusal
abbrev pub fault_address : PoolFault → Option ℕ
fault_address Memory = None
fault_address (Piece why) = piece.fault_address why
fault_address NoDriveLeft = None

-- the refusal that the volumes decide; none if memory ran out or no drive is left
abbrev pub cause : PoolFault → Option model.PieceFault
cause Memory = None
cause (Piece why) = piece.cause why
cause NoDriveLeft = None

-- The volumes decide the refusal of a piece: it is neither a drive's failure nor memory that ran
-- out. Those two are refusals of the whole pool.
abbrev pub IsDecided : PoolFault → Type 0
IsDecided Memory = ⊤
IsDecided (Piece why) = piece.cause why ≡ None → ⊥
IsDecided NoDriveLeft = ⊤

-- each drive failed
abbrev pub IsNoDriveLeft : PoolFault → Type 0
IsNoDriveLeft fault = fault_number fault ≡ 70
