-- How restores leave a script.
use Rattle.std.specs.Prelude.{◌≡◌, ℕ, List, Option, Some, None, Result, Ok, Err, OnOk, ⊤}
use Rattle.std.specs.Io.KnownBytes.{Appends, Keeps}
use Rattle.br_model.specs.Volume.{Volume}
use Rattle.br_model.specs.Bootstrap.{Group}
use Rattle.br_model.specs.Restored.{Planned}
use Rattle.br_model.specs.Plan.{Plan}
use Rattle.br_engine.specs.Fault as extract
use Rattle.br_engine.specs.declared.fault.ExtractFault.{ExtractFault}
use Rattle.br_engine.specs.declared.fault.ExtractFault.TheVariants as of_extract
use Rattle.br_engine.specs.declared.restore_end.RestoreEnd.{RestoreEnd}
use Rattle.br_engine.specs.declared.restore_end.RestoreEnd.TheVariants.{AllFiles, SomeFaults, Stopped}
use Rattle.br_console.specs.ConsoleFault as dialogue
use Rattle.br_console.specs.declared.console_fault.ConsoleFault.{ConsoleFault}
use Rattle.br_console.specs.declared.console_fault.ConsoleFault.TheVariants as of_dialogue
use Rattle.br_console.specs.declared.ending.LineVerdict.{LineVerdict}
use Rattle.br_console.specs.declared.ending.LineVerdict.TheVariants.{AllAccepted, SomeRefused}
use Rattle.br_cli_serve.specs.DrivenRestoring.{IsRestored}
use Rattle.br_cli_serve.specs.ScriptAnswering.{Tells, refusal_at}
use Rattle.br_cli_serve.specs.declared.script_fault.ScriptFault.{ScriptFault}
use Rattle.br_cli_serve.specs.declared.script_fault.ScriptFault.TheVariants as of_script
use Rattle.br_cli_serve.specs.declared.script.Script.{Script}
use Rattle.br_cli_serve.specs.declared.script.ScriptEnd.{ScriptEnd}
use Rattle.br_cli_serve.specs.declared.script.ScriptEnd.TheVariants.{Refused}

-- ---- refusals

-- this line is written, and the script does not end cleanly
abbrev pub RefusesBy : {E : Type 0} → Option (List ℕ) → Option (List ℕ) → ScriptEnd → Result (Unit {0}) E → List ℕ → Type 0
RefusesBy before after now result text = OnOk result ((now ≡ Refused) × Appends before after text)

-- a fault of reading or writing ends the script
abbrev pub ExtractStops : ExtractFault → Result (Unit {0}) ScriptFault → Type 0
ExtractStops (of_extract.Io why) result = result ≡ Err (of_script.Io why)
ExtractStops (of_extract.NoEnd turns) result = result ≡ Err (of_script.NoEnd turns)
ExtractStops why result = ⊤

abbrev pub DialogueStops : ConsoleFault → Result (Unit {0}) ScriptFault → Type 0
DialogueStops (of_dialogue.Io why) result = result ≡ Err (of_script.Io why)
DialogueStops (of_dialogue.NoEnd turns) result = result ≡ Err (of_script.NoEnd turns)
DialogueStops why result = ⊤

-- the line of the refusal is written, and the script does not end cleanly; a fault of reading or
-- writing ends it at once
abbrev pub RefusesExtract : Option (List ℕ) → Option (List ℕ) → ScriptEnd → ExtractFault → Result (Unit {0}) ScriptFault → Type 0
RefusesExtract before after now why result =
    OnOk result ((now ≡ Refused) × Tells before after (extract.fault_text why)) × ExtractStops why result

-- the same for a dialogue
abbrev pub RefusesDialogue : Option (List ℕ) → Option (List ℕ) → ScriptEnd → ConsoleFault → Result (Unit {0}) ScriptFault → Type 0
RefusesDialogue before after now why result =
    OnOk result ((now ≡ Refused) × Tells before after (dialogue.fault_text why)) × DialogueStops why result

-- ---- restores

-- After a restore in which each outcome is a file the script ends as it would before. After one
-- with faults it does not end cleanly. A refusal is written.
abbrev pub EndsRestore : Option (List ℕ) → Option (List ℕ) → ScriptEnd → ScriptEnd → Result RestoreEnd ExtractFault → Result (Unit {0}) ScriptFault → Type 0
EndsRestore before after was now (Ok AllFiles) result = (now ≡ was) × Keeps before after × (result ≡ Ok tt)
EndsRestore before after was now (Ok SomeFaults) result = (now ≡ Refused) × Keeps before after × (result ≡ Ok tt)
EndsRestore before after was now (Ok (Stopped stop)) result = (now ≡ Refused) × Keeps before after × (result ≡ Ok tt)
EndsRestore before after was now (Err why) result = RefusesExtract before after now why result

-- A bootstrap is restored by this number of drives over the volumes, with the names of its files if
-- it is that of a plan. The result is written, and the script ends accordingly.
abbrev pub Restores : Option (List Volume) → ℕ → List Group → Option (List Planned) → Option (List ℕ) → Option (List ℕ) → ScriptEnd → ScriptEnd
    → Result (Unit {0}) ScriptFault → Type 0
Restores volumes count groups names before after was now result =
    (middle : Option (List ℕ)) × (ended : Result RestoreEnd ExtractFault) × IsRestored volumes count groups names before middle ended
    × EndsRestore middle after was now ended result

-- the kept bootstrap is restored; if there is none, the line is refused
abbrev pub RunsKept : Option (List Volume) → ℕ → ℕ → Option (List ℕ) → Option (List ℕ) → ScriptEnd → ScriptEnd → Result (Unit {0}) ScriptFault
    → Option (List Group) → Type 0
RunsKept volumes count place before after was now result None = RefusesBy before after now result (refusal_at 90 place)
RunsKept volumes count place before after was now result (Some groups) = Restores volumes count groups None before after was now result

-- ---- dialogues

-- a script whose lines were refused does not end cleanly
abbrev pub after_lines : LineVerdict → ScriptEnd → ScriptEnd
after_lines AllAccepted was = was
after_lines SomeRefused was = Refused

-- after a dialogue its plan is restored, if there is one
abbrev pub EndsDialogue : Option (List Volume) → ℕ → Option (List ℕ) → Option (List ℕ) → ScriptEnd → ScriptEnd → Result (Unit {0}) ScriptFault
    → LineVerdict → Option Plan → Type 0
EndsDialogue volumes count before after was now result judged None = (now ≡ after_lines judged was) × Keeps before after × (result ≡ Ok tt)
EndsDialogue volumes count before after was now result judged (Some plan) =
    Restores volumes count plan.groups (Some plan.names) before after (after_lines judged was) now result

-- ---- as a script states it, over its volumes, its drives and its end

-- the kept bootstrap is restored; if there is none, the line is refused
abbrev pub RunsKeptBy : {C V : Type 0} → (V → Option (List Volume)) → Script C V → Script C V → Option (List ℕ) → Option (List ℕ) → ℕ
    → Result (Unit {0}) ScriptFault → Type 0
RunsKeptBy holds old new before after place result =
    RunsKept (holds old.desk.keeper.volumes) old.drives place before after old.end new.end result old.kept

-- the files of a plan are restored
abbrev pub RestoresPlan : {C V : Type 0} → (V → Option (List Volume)) → Script C V → Script C V → Option (List ℕ) → Option (List ℕ)
    → Result (Unit {0}) ScriptFault → Plan → Type 0
RestoresPlan holds old new before after result plan =
    Restores (holds old.desk.keeper.volumes) old.drives plan.groups (Some plan.names) before after old.end new.end result

-- after a dialogue its plan is restored, if there is one
abbrev pub EndsDialogueBy : {C V : Type 0} → (V → Option (List Volume)) → Script C V → Script C V → Option (List ℕ) → Option (List ℕ)
    → Result (Unit {0}) ScriptFault → LineVerdict → Option Plan → Type 0
EndsDialogueBy holds old new before after result judged plan =
    EndsDialogue (holds old.desk.keeper.volumes) old.drives before after old.end new.end result judged plan
