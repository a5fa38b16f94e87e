-- The refusals of the lines of a job.
use Rattle.std.specs.Prelude.{ℕ, Option, Some, None}
use Rattle.br_types.specs.declared.fault.EscapeFault.{EscapeFault}
use Rattle.br_types.specs.declared.fault.EscapeFault.TheVariants as escapes
use Rattle.br_types.specs.declared.fault.NameFault.{NameFault}
use Rattle.br_types.specs.declared.fault.NameFault.TheVariants as names
use Rattle.br_types.specs.declared.line_fault.LineFault.{LineFault}
use Rattle.br_types.specs.declared.line_fault.LineFault.TheVariants as lines
use Rattle.br_attr.specs.declared.fault.AttrFault.{AttrFault}
use Rattle.br_attr.specs.Fault as attr
use Rattle.br_session.specs.declared.fault.SessionFault.{SessionFault}
use Rattle.br_session.specs.Fault as session
use Rattle.br_history.specs.Saving.{saved_job_number}
use Rattle.br_history.specs.declared.job_line_fault.JobLineFault.{JobLineFault}
use Rattle.br_history.specs.declared.job_line_fault.JobLineFault.TheVariants.{Memory, BadScript, BadPath, Stat, File}
use Rattle.br_history.specs.declared.draft.EndFault.{EndFault}
use Rattle.br_history.specs.declared.draft.EndFault.TheVariants as end

-- the number of a refusal
abbrev pub fault_number : JobLineFault → ℕ
fault_number Memory = 1
fault_number BadScript = 90
fault_number BadPath = 3
fault_number (Stat fault) = attr.fault_number fault
fault_number (File fault) = session.fault_number fault

-- the refusal that the line decides; none if memory ran out
abbrev pub cause : JobLineFault → Option ℕ
cause Memory = None
cause BadScript = Some 90
cause BadPath = Some 3
cause (Stat fault) = attr.cause fault
cause (File fault) = session.cause fault

-- the refusal of a line for a refused field
abbrev pub of_line_fault : LineFault → JobLineFault
of_line_fault lines.Memory = Memory
of_line_fault lines.BadScript = BadScript

-- the refusal of a line for a refused escape
abbrev pub of_escape_fault : EscapeFault → JobLineFault
of_escape_fault escapes.Memory = Memory
of_escape_fault escapes.BadEscape = BadScript

-- the refusal of a line for a refused name or path
abbrev pub of_name_fault : NameFault → JobLineFault
of_name_fault names.Memory = Memory
of_name_fault names.BadName = BadScript
of_name_fault names.BadPath = BadPath

abbrev pub of_attr_fault : AttrFault → JobLineFault
of_attr_fault fault = Stat fault

abbrev pub of_session_fault : SessionFault → JobLineFault
of_session_fault fault = File fault

-- the number of a job that was refused at its end
abbrev pub end_number : EndFault → ℕ
end_number end.NoLastPlace = 90
end_number (end.Job fault) = saved_job_number fault
