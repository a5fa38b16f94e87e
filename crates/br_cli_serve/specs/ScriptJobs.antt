-- The effect of the lines of a job.
use Rattle.std.specs.Prelude.{◌≡◌, ℕ, ◌⊎◌, List, Option, Some, None, MatchOption, Result, Ok, Err, OnOk}
use Rattle.std.specs.Io.KnownBytes.{Appends, Keeps}
use Rattle.br_model.specs.Answer.{IsRefusal}
use Rattle.br_model.specs.Job.{JobRows}
use Rattle.br_model.specs.Volume.{Volume}
use Rattle.br_history.specs.Saving.{ToCommit}
use Rattle.br_volume.specs.Store.{Failures}
use Rattle.br_keeper.specs.Sessions.{Known}
use Rattle.br_keeper.specs.Keeping.{Keeping, shelf_of}
use Rattle.br_keeper.specs.Writing.{Shelf}
use Rattle.br_history.specs.Drafting.{Drafting, TakesLine, begins, ended, given_up}
use Rattle.br_history.specs.JobLineFault.{cause, fault_number}
use Rattle.br_history.specs.JobHead.{Begun, head_said}
use Rattle.br_history.specs.declared.draft.Taken.{Taken}
use Rattle.br_history.specs.declared.draft.Taken.TheVariants.{Line, End}
use Rattle.br_history.specs.declared.job_line_fault.JobLineFault.{JobLineFault}
use Rattle.br_cli_serve.specs.ScriptAnswering.{refusal_at}
use Rattle.br_cli_serve.specs.ScriptKeeper.{AnswersCommit, EndsJob}
use Rattle.br_cli_serve.specs.declared.script.Script.{Script}

-- The fields begin a job, and nothing is written. Or they are refused, the refusal is written, and the job is as before.
abbrev pub BeginsJob : {E : Type 0} → ℕ → Option (List ℕ) → Option (List ℕ) → Result (Unit {0}) E → List ℕ → Option Drafting → Option Drafting → Type 0
BeginsJob place before after result fields was now =
    ((head : Begun) × (head_said fields ≡ Ok head) × (now ≡ Some (begins head)) × Keeps before after)
    ⊎ ((why : JobLineFault) × IsRefusal (cause why) (head_said fields) × (now ≡ was) × OnOk result (Appends before after (refusal_at (fault_number why) place)))

-- the job is given up, if there is one
abbrev pub GivesUp : Option Drafting → Option Drafting → Type 0
GivesUp before after = MatchOption before (after ≡ None) (λ d. after ≡ Some (given_up d))

-- The state of a job after a line that it has taken. If the line ends the job, the job ends. If the
-- line is refused, its refusal is written. Every other line only changes the job.
abbrev pub GoesOn : {C W E : Type 0} → (JobRows → C → C → Type 0) → (JobRows → C → C → Type 0) → (Keeping C W → Shelf) → ℕ
    → Keeping C W → Keeping C W → Option Known → Option (List ℕ) → Option (List ℕ) → Result (Unit {0}) E
    → Drafting → Option Drafting → Result Taken JobLineFault → Type 0
GoesOn inserts refuses shelf place old new session before after result taken left (Ok End) =
    (left ≡ None) × EndsJob inserts refuses shelf place old new session before after result (ended taken)
GoesOn inserts refuses shelf place old new session before after result taken left (Ok Line) = (left ≡ Some taken) × (new ≡ old) × Keeps before after
GoesOn inserts refuses shelf place old new session before after result taken left (Err why) =
    (left ≡ Some taken) × (new ≡ old) × OnOk result (Appends before after (refusal_at (fault_number why) place))

-- a job takes a line, and goes on or ends
abbrev pub TakesIn : {C W E : Type 0} → (JobRows → C → C → Type 0) → (JobRows → C → C → Type 0) → (Keeping C W → Shelf) → ℕ
    → Keeping C W → Keeping C W → Option Known → Option (List ℕ) → Option (List ℕ) → Result (Unit {0}) E
    → List ℕ → Drafting → Option Drafting → Type 0
TakesIn inserts refuses shelf place old new session before after result line draft left =
    (taken : Drafting) × (r : Result Taken JobLineFault) × TakesLine line draft taken r
    × GoesOn inserts refuses shelf place old new session before after result taken left r

-- ---- as a script states it, over what its catalogue, its volumes and its writer show

-- a job is committed, and its line is written
abbrev pub CommitsJob : {C V W E : Type 0} → (JobRows → C → C → Type 0) → (JobRows → C → C → Type 0) → (V → Option (List Volume)) → (V → Failures)
    → (W → Option (List ℕ)) → Script C V → Script C V → W → W → ToCommit → Result (Unit {0}) E → Type 0
CommitsJob inserts refuses holds failures contents old new before after c result =
    AnswersCommit inserts refuses (shelf_of holds failures) c old.desk.keeper new.desk.keeper new.desk.session (contents before) (contents after) result

-- the result for a job that ends
abbrev pub EndsDraft : {C V W E : Type 0} → (JobRows → C → C → Type 0) → (JobRows → C → C → Type 0) → (V → Option (List Volume)) → (V → Failures)
    → (W → Option (List ℕ)) → Script C V → Script C V → W → W → ℕ → Result (Unit {0}) E → Drafting → Type 0
EndsDraft inserts refuses holds failures contents old new before after place result draft =
    EndsJob inserts refuses (shelf_of holds failures) place old.desk.keeper new.desk.keeper new.desk.session (contents before) (contents after) result (ended draft)

-- a job takes a line, and goes on or ends
abbrev pub DraftTakes : {C V W E : Type 0} → (JobRows → C → C → Type 0) → (JobRows → C → C → Type 0) → (V → Option (List Volume)) → (V → Failures)
    → (W → Option (List ℕ)) → Script C V → Script C V → W → W → ℕ → Result (Unit {0}) E → List ℕ → Drafting → Type 0
DraftTakes inserts refuses holds failures contents old new before after place result line draft =
    TakesIn inserts refuses (shelf_of holds failures) place old.desk.keeper new.desk.keeper new.desk.session (contents before) (contents after) result
    line draft new.draft
