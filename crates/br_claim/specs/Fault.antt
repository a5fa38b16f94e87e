-- The numbers of refused claims.
use Rattle.std.specs.Prelude.{ℕ}
use Rattle.br_claim.specs.declared.fault.ClaimFault.{ClaimFault}
use Rattle.br_claim.specs.declared.fault.ClaimFault.TheVariants.{Memory, MissingSeat}

-- the number of a refusal
abbrev pub fault_number : ClaimFault → ℕ
fault_number Memory = 1
fault_number MissingSeat = 71
