-- The numbers of refused files and sessions.
use Rattle.std.specs.Prelude.{ℕ, Option, Some, None}
use Rattle.br_session.specs.declared.fault.SessionFault.{SessionFault}
use Rattle.br_session.specs.declared.fault.SessionFault.TheVariants.{Memory, TooLarge, BadFileOrder, BadSavedFile, BadRow}

-- the number of a refusal
abbrev pub fault_number : SessionFault → ℕ
fault_number Memory = 1
fault_number TooLarge = 15
fault_number BadFileOrder = 16
fault_number BadSavedFile = 17
fault_number BadRow = 42

-- the refusal that the model decides: none if memory ran out
abbrev pub cause : SessionFault → Option ℕ
cause Memory = None
cause TooLarge = Some 15
cause BadFileOrder = Some 16
cause BadSavedFile = Some 17
cause BadRow = Some 42
