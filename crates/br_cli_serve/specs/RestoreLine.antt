-- The fields of a line `restore`.
use Rattle.std.specs.Prelude.{ℕ, List, Option, Some, Result, Ok}
use Rattle.br_model.specs.Answer.{◌>>=◌}
use Rattle.br_model.specs.Choice.{Request}
use Rattle.br_model.specs.Moment.{read_moment}
use Rattle.br_plan.specs.Fault.{moment_number}
use Rattle.br_history.specs.JobLineFault as field
use Rattle.br_history.specs.JobFields.{field as field_said, name_said}
use Rattle.br_history.specs.declared.job_line_fault.JobLineFault.{JobLineFault}
use Rattle.br_plan.specs.declared.moment.BadMoment.{BadMoment}
use Rattle.br_cli_serve.specs.declared.restore_line.RestoreLineFault.{RestoreLineFault}
use Rattle.br_cli_serve.specs.declared.restore_line.RestoreLineFault.TheVariants.{Field, Moment}

-- the number of a refusal
abbrev pub fault_number : RestoreLineFault → ℕ
fault_number (Field why) = field.fault_number why
fault_number (Moment why) = moment_number why

-- the refusal that the fields decide; none if memory ran out
abbrev pub cause : RestoreLineFault → Option ℕ
cause (Field why) = field.cause why
cause (Moment why) = Some (moment_number why)

abbrev pub of_field_fault : JobLineFault → RestoreLineFault
of_field_fault why = Field why

abbrev pub of_moment_fault : BadMoment → RestoreLineFault
of_moment_fault why = Moment why

-- a client, a file set and a moment: 90 if the fields are malformed, and then 52 for the moment
unfoldable pub request_said : List ℕ → Result Request ℕ
request_said text = do
  client ← field_said text
  fileset ← field_said client.1
  c ← name_said client.0
  f ← name_said fileset.0
  m ← read_moment fileset.1
  Ok (record { client = c; fileset = f; moment = m })
