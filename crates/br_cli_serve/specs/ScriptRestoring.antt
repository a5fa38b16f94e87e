-- The dialogues of restores.
use Rattle.std.specs.Prelude.{◌≡◌, ℕ, ◌⊎◌, List, ◌++◌, Option, MatchOption, Result, Ok, Err, ⊤}
use Rattle.std.specs.Io.KnownBytes.{Keeps}
use Rattle.br_model.specs.Answer.{IsRefusal}
use Rattle.br_model.specs.Text.{refused_line}
use Rattle.br_model.specs.Volume.{Volume}
use Rattle.br_model.specs.Job.{JobRows}
use Rattle.br_model.specs.Choice.{Request, choose}
use Rattle.br_keeper.specs.Sessions.{Known, Extends}
use Rattle.br_console.specs.Running.{Begins, begun}
use Rattle.br_cli_serve.specs.ScriptAnswering.{refusal_at}
use Rattle.br_cli_serve.specs.ScriptEnding.{EndsDialogue, RefusesBy, RefusesDialogue}
use Rattle.br_cli_serve.specs.RestoreLine.{cause, fault_number, request_said}
use Rattle.br_cli_serve.specs.declared.script_fault.ScriptFault.{ScriptFault}
use Rattle.br_cli_serve.specs.declared.restore_line.RestoreLineFault.{RestoreLineFault}
use Rattle.br_cli_serve.specs.declared.script.Script.{Script}
use Rattle.br_cli_serve.specs.declared.script.ScriptEnd.{ScriptEnd}
use Rattle.br_cli_serve.specs.declared.script_restores.Dialogue.{Dialogue}
use Rattle.br_cli_serve.specs.declared.script_restores.Dialogue.TheVariants.{Refused, NoMemory, Unended, Held, Broken}

-- the choice of jobs is refused with this number, or memory ran out
abbrev pub IsUnchosen : List JobRows → Request → ℕ → Type 0
IsUnchosen history q n = (n ≡ 1) ⊎ (choose history q ≡ Err n)

-- The dialogue was that of some text with the console over the jobs of this history, and what comes
-- before drives are used was written. Or nothing was, and the choice of jobs is refused, memory ran
-- out, or the input ended.
abbrev pub Converses : Option (List ℕ) → Option (List ℕ) → List JobRows → Request → Dialogue → Type 0
Converses before after history q (Refused n) = Keeps before after × IsUnchosen history q n
Converses before after history q NoMemory = Keeps before after
Converses before after history q Unended = Keeps before after
Converses before after history q (Held judged plan) = (text : List ℕ) × Begins before after (begun history q text) (Ok (judged, plan))
Converses before after history q (Broken why) = (text : List ℕ) × Begins before after (begun history q text) (Err why)

-- the same, unless the script ended before
abbrev pub ConversesOver : Option (List ℕ) → Option (List ℕ) → List JobRows → Request → Result Dialogue ScriptFault → Type 0
ConversesOver before after history q (Ok dialogue) = Converses before after history q dialogue
ConversesOver before after history q (Err why) = ⊤

-- The same over a snapshot of a session, which contains what the session knows to be published. Or
-- no snapshot was given.
abbrev pub ConversesIn : Option (List ℕ) → Option (List ℕ) → Known → Request → Result Dialogue ScriptFault → Type 0
ConversesIn before after session q result =
    ((result ≡ Ok (Refused 1)) × Keeps before after)
    ⊎ ((view : Known) × Extends session view × ConversesOver before after (view.opening ++ view.list) q result)

-- What follows a dialogue. If its jobs are not chosen, or memory ran out, the refusal is written.
-- If the input ended before the dialogue, it has no effect. If the dialogue was completed, its plan
-- is restored, if there is one. If it failed, it is refused.
abbrev pub FinishesDialogue : Option (List Volume) → ℕ → Option (List ℕ) → Option (List ℕ) → ScriptEnd → ScriptEnd → Result (Unit {0}) ScriptFault
    → Dialogue → Type 0
FinishesDialogue volumes count before after was now result (Refused n) = RefusesBy before after now result (refused_line n)
FinishesDialogue volumes count before after was now result NoMemory = RefusesBy before after now result (refused_line 1)
FinishesDialogue volumes count before after was now result Unended = (now ≡ was) × Keeps before after × (result ≡ Ok tt)
FinishesDialogue volumes count before after was now result (Held judged plan) = EndsDialogue volumes count before after was now result judged plan
FinishesDialogue volumes count before after was now result (Broken why) = RefusesDialogue before after now why result

-- the same, as a script states it
abbrev pub FinishesDialogueBy : {C V : Type 0} → (V → Option (List Volume)) → Script C V → Script C V → Option (List ℕ) → Option (List ℕ)
    → Result (Unit {0}) ScriptFault → Dialogue → Type 0
FinishesDialogueBy holds old new before after result dialogue =
    FinishesDialogue (holds old.desk.keeper.volumes) old.drives before after old.end new.end result dialogue

-- what follows a dialogue, unless reading or writing failed
abbrev pub FinishesOver : Option (List Volume) → ℕ → Option (List ℕ) → Option (List ℕ) → ScriptEnd → ScriptEnd → Result (Unit {0}) ScriptFault
    → Result Dialogue ScriptFault → Type 0
FinishesOver volumes count before after was now result (Ok dialogue) = FinishesDialogue volumes count before after was now result dialogue
FinishesOver volumes count before after was now result (Err why) = result ≡ Err why

-- a dialogue of a request takes place over a snapshot of the session, and what follows it is done
abbrev pub HoldsDialogue : Option (List Volume) → ℕ → Known → Request → Option (List ℕ) → Option (List ℕ) → ScriptEnd → ScriptEnd
    → Result (Unit {0}) ScriptFault → Type 0
HoldsDialogue volumes count session q before after was now result =
    (middle : Option (List ℕ)) × (held : Result Dialogue ScriptFault) × ConversesIn before middle session q held
    × FinishesOver volumes count middle after was now result held

-- The effect of a line `restore`. If its fields are no request, the line is refused. Otherwise the
-- dialogue of the request takes place over a snapshot of the session.
abbrev pub RestoresBy : {C V : Type 0} → (V → Option (List Volume)) → Script C V → Script C V → Option (List ℕ) → Option (List ℕ) → ℕ
    → Result (Unit {0}) ScriptFault → List ℕ → Type 0
RestoresBy holds old new before after place result fields =
    ((why : RestoreLineFault) × IsRefusal (cause why) (request_said fields) × RefusesBy before after new.end result (refusal_at (fault_number why) place))
    ⊎ ((q : Request) × (request_said fields ≡ Ok q) × MatchOption old.desk.session ⊥
    (λ s. HoldsDialogue (holds old.desk.keeper.volumes) old.drives s q before after old.end new.end result))
