-- The effect of the lines outside of a job.
use Rattle.std.specs.Prelude.{◌≡◌, ℕ, ◌⊎◌, List, Option, Some, None, MatchOption, Result, Ok, Err}
use Rattle.std.specs.Io.KnownBytes.{Keeps}
use Rattle.br_model.specs.Answer.{Answers, IsRefusal}
use Rattle.br_model.specs.Text.{refused_line}
use Rattle.br_model.specs.Job.{JobRows}
use Rattle.br_model.specs.Volume.{Volume}
use Rattle.br_model.specs.Bootstrap.{Group}
use Rattle.br_model.specs.BootstrapText.{read_bootstrap}
use Rattle.br_bsr.specs.Fault as bootstrap
use Rattle.br_bsr.specs.declared.fault.BsrFault.{BsrFault}
use Rattle.br_engine.specs.declared.fault.ExtractFault.TheVariants as of_extract
use Rattle.br_types.specs.LineFault.{line_cause}
use Rattle.br_volume.specs.Store.{Failures}
use Rattle.br_types.specs.declared.line_fault.LineFault.{LineFault}
use Rattle.br_types.specs.declared.line_fault.LineFault.TheVariants.{Memory, BadScript}
use Rattle.br_cli_serve.specs.ScriptAnswering.{refusal_at}
use Rattle.br_cli_serve.specs.ScriptDeeds.{AnswersBytes}
use Rattle.br_cli_serve.specs.ScriptEnding.{RefusesBy, RefusesExtract, RunsKeptBy}
use Rattle.br_cli_serve.specs.ScriptJobs.{BeginsJob, DraftTakes}
use Rattle.br_cli_serve.specs.ScriptLine.{Said, line_said}
use Rattle.br_cli_serve.specs.ScriptLine.Said.{Drives, Volume as Bytes, Bsr, Extract, Job, Restore}
use Rattle.br_cli_serve.specs.ScriptRestoring.{RestoresBy}
use Rattle.br_cli_serve.specs.declared.script_fault.ScriptFault.{ScriptFault}
use Rattle.br_cli_serve.specs.declared.script.Script.{Script}
use Rattle.br_cli_serve.specs.declared.script.ScriptEnd.{ScriptEnd}
use Rattle.br_cli_serve.specs.declared.script_input.LineReading.{LineReading}
use Rattle.br_cli_serve.specs.declared.script_input.LineReading.TheVariants as reading_of

-- a bootstrap that was read is kept; if it is refused, the refusal is written and none is kept
abbrev pub KeepsRead : Option (List ℕ) → Option (List ℕ) → ScriptEnd → ScriptEnd → Result (Unit {0}) ScriptFault → Option (List Group)
    → Result (List Group) BsrFault → Type 0
KeepsRead before after was now result keeps (Ok groups) = (keeps ≡ Some groups) × (now ≡ was) × Keeps before after
KeepsRead before after was now result keeps (Err why) = (keeps ≡ None) × RefusesExtract before after now (of_extract.Bootstrap why) result

-- Some text is read as a bootstrap. Or memory ran out for it, or the input ended or failed before
-- its end.
abbrev pub KeepsBootstrap : Option (List ℕ) → Option (List ℕ) → ScriptEnd → ScriptEnd → Result (Unit {0}) ScriptFault → Option (List Group)
    → Option (List Group) → Type 0
KeepsBootstrap before after was now result kept keeps =
    ((keeps ≡ kept) × (now ≡ was) × Keeps before after)
    ⊎ (((keeps ≡ None) × RefusesBy before after now result (refused_line 1))
    ⊎ ((text : List ℕ) × (read : Result (List Group) BsrFault) × Answers (λ (groups : List Group). groups) bootstrap.cause read (read_bootstrap text)
    × KeepsRead before after was now result keeps read))

-- the bytes are appended to the volume, or a first part of them and the refusal is written
abbrev pub AppendsBy : {C V E : Type 0} → (V → Option (List Volume)) → (V → Failures) → Script C V → Script C V → Option (List ℕ) → Option (List ℕ)
    → List ℕ → List ℕ → Result (Unit {0}) E → Type 0
AppendsBy holds failures old new before after volume bytes result =
    AnswersBytes holds failures volume bytes old.desk.keeper new.desk.keeper before after result

-- the effect of a line outside of a job with this request
abbrev pub Obeys : {C V : Type 0} → (V → Option (List Volume)) → (V → Failures) → Script C V → Script C V → Option (List ℕ) → Option (List ℕ) → ℕ
    → Result (Unit {0}) ScriptFault → Said → Type 0
Obeys holds failures old new before after place result (Drives n) = (new ≡ record old { drives = n }) × Keeps before after
Obeys holds failures old new before after place result (Bytes name bytes) =
    AppendsBy holds failures old new before after name bytes result
Obeys holds failures old new before after place result Bsr = KeepsBootstrap before after old.end new.end result old.kept new.kept
Obeys holds failures old new before after place result Extract = RunsKeptBy holds old new before after place result
Obeys holds failures old new before after place result (Job fields) = BeginsJob place before after result fields old.draft new.draft
Obeys holds failures old new before after place result (Restore fields) = RestoresBy holds old new before after place result fields

-- the number of the refusal of a line outside of a job
abbrev pub number_of : LineFault → ℕ
number_of Memory = 1
number_of BadScript = 90

-- a line outside of a job is carried out, or it is refused
abbrev pub TakesOutside : {C V : Type 0} → (V → Option (List Volume)) → (V → Failures) → Script C V → Script C V → Option (List ℕ) → Option (List ℕ) → ℕ
    → Result (Unit {0}) ScriptFault → List ℕ → Type 0
TakesOutside holds failures old new before after place result line =
    ((why : LineFault) × IsRefusal (line_cause why) (line_said line) × RefusesBy before after new.end result (refusal_at (number_of why) place))
    ⊎ ((asked : Said) × (line_said line ≡ Ok asked) × Obeys holds failures old new before after place result asked)

-- a line is taken by the job that it is in, else by the script
abbrev pub CarriesOut : {C V W : Type 0} → (JobRows → C → C → Type 0) → (JobRows → C → C → Type 0) → (V → Option (List Volume)) → (V → Failures)
    → (W → Option (List ℕ)) → Script C V → Script C V → W → W → ℕ → Result (Unit {0}) ScriptFault → List ℕ → Type 0
CarriesOut inserts refuses holds failures contents old new before after place result line =
    MatchOption old.draft (TakesOutside holds failures old new (contents before) (contents after) place result line)
    (λ d. DraftTakes inserts refuses holds failures contents old new before after place result line d)

-- the same of what was read, if it is a whole line
abbrev pub Carries : {C V W : Type 0} → (JobRows → C → C → Type 0) → (JobRows → C → C → Type 0) → (V → Option (List Volume)) → (V → Failures)
    → (W → Option (List ℕ)) → Script C V → Script C V → W → W → ℕ → LineReading → Result (Unit {0}) ScriptFault → List ℕ → Type 0
Carries inserts refuses holds failures contents old new before after place reading result line =
    reading ≡ reading_of.Line → CarriesOut inserts refuses holds failures contents old new before after place result line
