-- The reason why a joiner took nothing.
use Rattle.std.specs.Prelude.{ℕ}
use Rattle.br_join.specs.declared.fault.JoinFault.{JoinFault}
use Rattle.br_join.specs.declared.fault.JoinFault.TheVariants.{Memory, StrangerPiece}

-- the number of a refusal
abbrev pub fault_number : JoinFault → ℕ
fault_number Memory = 1
fault_number StrangerPiece = 58
