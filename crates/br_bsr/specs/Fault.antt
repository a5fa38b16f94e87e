-- The numbers and lines of refused bootstraps.
use Rattle.std.specs.Prelude.{ℕ, Option, Some, None, option_map}
use Rattle.br_model.specs.BootstrapText.{LineFault}
use Rattle.br_bsr.specs.declared.fault.LineRefusal.{LineRefusal}
use Rattle.br_bsr.specs.declared.fault.LineRefusal.TheVariants as refusal
use Rattle.br_bsr.specs.declared.fault.BsrFault.{BsrFault}
use Rattle.br_bsr.specs.declared.fault.BsrFault.TheVariants.{Memory, VolumeFirst, UnknownKeyword, UnsupportedKeyword, BadValue, TooLong}

-- the number of a refusal
abbrev pub fault_number : BsrFault → ℕ
fault_number Memory = 1
fault_number (VolumeFirst n) = 30
fault_number (UnknownKeyword n) = 31
fault_number (UnsupportedKeyword n) = 32
fault_number (BadValue n) = 33
fault_number (TooLong n) = 34

-- the refused line
abbrev pub fault_line : BsrFault → Option ℕ
fault_line Memory = None
fault_line (VolumeFirst n) = Some n
fault_line (UnknownKeyword n) = Some n
fault_line (UnsupportedKeyword n) = Some n
fault_line (BadValue n) = Some n
fault_line (TooLong n) = Some n

-- the refusal that the model decides: none if memory ran out
abbrev pub cause : BsrFault → Option LineFault
cause Memory = None
cause (VolumeFirst n) = Some (record { number = 30; line = n })
cause (UnknownKeyword n) = Some (record { number = 31; line = n })
cause (UnsupportedKeyword n) = Some (record { number = 32; line = n })
cause (BadValue n) = Some (record { number = 33; line = n })
cause (TooLong n) = Some (record { number = 34; line = n })

-- the number of the refusal of a line: none if memory ran out
abbrev pub refusal_cause : LineRefusal → Option ℕ
refusal_cause refusal.Memory = None
refusal_cause refusal.VolumeFirst = Some 30
refusal_cause refusal.UnknownKeyword = Some 31
refusal_cause refusal.UnsupportedKeyword = Some 32
refusal_cause refusal.BadValue = Some 33
refusal_cause refusal.TooLong = Some 34

-- the number of the refusal of a line: 1 if memory ran out
abbrev pub refusal_number : LineRefusal → ℕ
refusal_number refusal.Memory = 1
refusal_number refusal.VolumeFirst = 30
refusal_number refusal.UnknownKeyword = 31
refusal_number refusal.UnsupportedKeyword = 32
refusal_number refusal.BadValue = 33
refusal_number refusal.TooLong = 34

-- the refusal of a text for that of its line
abbrev pub at_line : ℕ → Option ℕ → Option LineFault
at_line n e = option_map (λ number. record { number = number; line = n }) e
