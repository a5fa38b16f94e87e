-- Why a line of a script was refused.
use Rattle.std.specs.Prelude.{Option, Some, None}
use Rattle.br_types.specs.declared.fault.EscapeFault.{EscapeFault}
use Rattle.br_types.specs.declared.fault.EscapeFault.TheVariants as escapes
use Rattle.br_types.specs.declared.fault.NameFault.{NameFault}
use Rattle.br_types.specs.declared.fault.NameFault.TheVariants as names
use Rattle.hex.specs.declared.error.FromHexError.{FromHexError}
use Rattle.hex.specs.declared.error.FromHexError.TheVariants as digits
use Rattle.br_types.specs.declared.line_fault.LineFault.{LineFault}
use Rattle.br_types.specs.declared.line_fault.LineFault.TheVariants.{Memory, BadScript}

-- the refusal that the line decides; none if memory ran out
abbrev pub line_cause : LineFault → Option (Unit {0})
line_cause Memory = None
line_cause BadScript = Some tt

-- the refusal of a line for a refused name
abbrev pub of_name_fault : NameFault → LineFault
of_name_fault names.Memory = Memory
of_name_fault names.BadName = BadScript
of_name_fault names.BadPath = BadScript

-- the refusal of a line for a refused escape
abbrev pub of_escape_fault : EscapeFault → LineFault
of_escape_fault escapes.Memory = Memory
of_escape_fault escapes.BadEscape = BadScript

-- the refusal of a line for refused digits
abbrev pub of_hex_fault : FromHexError → LineFault
of_hex_fault digits.OutOfMemory = Memory
of_hex_fault digits.OddLength = BadScript
of_hex_fault digits.InvalidStringLength = BadScript
of_hex_fault (digits.InvalidHexCharacter c i) = BadScript
