-- The numbers of refused plans.
use Rattle.std.specs.Prelude.{ℕ, Option, Some, None}
use Rattle.br_choose.specs.declared.fault.ChooseFault.{ChooseFault}
use Rattle.br_choose.specs.declared.fault.ChooseFault.TheVariants as choosing
use Rattle.br_plan.specs.declared.fault.PlanFault.{PlanFault}
use Rattle.br_plan.specs.declared.moment.BadMoment.{BadMoment}
use Rattle.br_plan.specs.declared.fault.PlanFault.TheVariants.{Memory, NoFull, NothingMarked, UnknownClient, UnknownFileSet}

-- the number of a refusal
abbrev pub fault_number : PlanFault → ℕ
fault_number Memory = 1
fault_number NoFull = 50
fault_number NothingMarked = 51
fault_number UnknownClient = 53
fault_number UnknownFileSet = 54

-- the refusal that the model decides; none if memory ran out
abbrev pub cause : PlanFault → Option ℕ
cause Memory = None
cause NoFull = Some 50
cause NothingMarked = Some 51
cause UnknownClient = Some 53
cause UnknownFileSet = Some 54

-- the refusal of a plan for a refused choice
abbrev pub from_choice : ChooseFault → PlanFault
from_choice choosing.Memory = Memory
from_choice choosing.NoFull = NoFull
from_choice choosing.UnknownClient = UnknownClient
from_choice choosing.UnknownFileSet = UnknownFileSet

-- the number of the refusal of a text that is not a moment
abbrev pub moment_number : BadMoment → ℕ
moment_number why = 52
