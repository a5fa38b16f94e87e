-- The number of a refused step.
use Rattle.std.specs.Prelude.{ℕ, Option, Some, None}
use Rattle.br_history.specs.Fault as history
use Rattle.br_plan.specs.Fault as planning
use Rattle.br_core.specs.declared.fault.StepFault.{StepFault}
use Rattle.br_core.specs.declared.fault.StepFault.TheVariants.{Memory, NotEnabled, Commit, Plan}

-- the number of a refusal
abbrev pub fault_number : StepFault → ℕ
fault_number Memory = 1
fault_number NotEnabled = 59
fault_number (Commit why) = history.fault_number why
fault_number (Plan why) = planning.fault_number why

-- the refusal in the relation; none if memory ran out
abbrev pub cause : StepFault → Option ℕ
cause Memory = None
cause NotEnabled = Some 59
cause (Commit why) = history.cause why
cause (Plan why) = planning.cause why
