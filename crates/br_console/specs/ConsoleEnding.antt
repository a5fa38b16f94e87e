-- The end of a session and of a run of the console.
use Rattle.std.specs.Prelude.{◌≡◌, ℕ, Bool, true, false, List, [], Option, Some, None, Result, Ok, ⊤}
use Rattle.br_model.specs.Plan.{Plan}
use Rattle.br_model.specs.Restored.{Restored}
use Rattle.br_engine.specs.Outputs.{EndTells, InSink}
use Rattle.br_engine.specs.Delivering.{IsPut}
use Rattle.br_engine.specs.WantedOutcomes.{delivered, left_out, reported}
use Rattle.br_engine.specs.declared.extracted.Extracted.{Extracted}
use Rattle.br_engine.specs.declared.restore_end.RestoreEnd.{RestoreEnd}
use Rattle.br_engine.specs.declared.restore_end.RestoreEnd.TheVariants as restore
use Rattle.br_types.specs.declared.wanted.Wanted.{Wanted}
use Rattle.br_console.specs.declared.ending.LineVerdict.{LineVerdict}
use Rattle.br_console.specs.declared.ending.LineVerdict.TheVariants.{AllAccepted, SomeRefused}
use Rattle.br_console.specs.declared.ending.SessionEnd.{SessionEnd}
use Rattle.br_console.specs.declared.ending.SessionEnd.TheVariants as session
use Rattle.br_console.specs.declared.ending.End.{End}
use Rattle.br_console.specs.declared.ending.End.TheVariants.{Done, Quit}

-- no line was refused
abbrev pub are_accepted : LineVerdict → Bool
are_accepted AllAccepted = true
are_accepted SomeRefused = false

-- the session ended by `done`
abbrev pub is_done : SessionEnd → Bool
is_done session.Done = true
is_done session.Quit = false

-- Each outcome of a restore is a file, or some is not. If the delivery stopped, the end does not
-- say which.
abbrev pub IsWhole : RestoreEnd → Bool → Type 0
IsWhole restore.AllFiles whole = whole ≡ true
IsWhole restore.SomeFaults whole = whole ≡ false
IsWhole (restore.Stopped stop) whole = ⊤

-- the run restored files, each outcome of which is a file, or some is not; or it restored nothing
abbrev pub EndIs : End → Option Bool → Type 0
EndIs Quit None = ⊤
EndIs Quit (Some whole) = ⊥
EndIs (Done done) None = ⊥
EndIs (Done done) (Some whole) = IsWhole done.end whole

-- The end tells whether each of these files is one. Those that are to be delivered were put, or those
-- before a stop. The paths that are left out for a conflict are told.
abbrev pub EndsWanted : Wanted → InSink → InSink → List Restored → Extracted → Type 0
EndsWanted wanted had has rs done = EndTells done.end rs × IsPut had has done.end (delivered wanted rs) × (done.left.items ≡ left_out wanted rs)

-- what the plan asks for and these files lack is told, if that is wanted
abbrev pub TellsMissing : Wanted → Plan → List Restored → Extracted → Type 0
TellsMissing wanted plan rs done = done.missing.items ≡ reported wanted.gaps plan.groups [] rs

-- without files nothing was put; otherwise the restore ended like this, with what is wanted of these
-- files in the sink
abbrev pub LeavesSink : Wanted → InSink → InSink → End → Option (List Restored) → Type 0
LeavesSink wanted had has Quit None = has ≡ had
LeavesSink wanted had has Quit (Some rs) = ⊥
LeavesSink wanted had has (Done done) None = ⊥
LeavesSink wanted had has (Done done) (Some rs) = EndsWanted wanted had has rs done

-- the same of what the plan asks for, if this is the plan
abbrev pub LeavesMissing : Result (Option Plan) ℕ → Wanted → End → Option (List Restored) → Type 0
LeavesMissing made wanted (Done done) (Some rs) = (plan : Plan) → made ≡ Ok (Some plan) → TellsMissing wanted plan rs done
LeavesMissing made wanted (Done done) None = ⊤
LeavesMissing made wanted Quit files = ⊤
