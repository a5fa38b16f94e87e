-- A run of the console: from a history and the lines of a dialogue to a bootstrap, and over volumes
-- to a manifest. It says what is appended to what the writer held, and what is returned or refused.
use Rattle.std.specs.Prelude.{◌≡◌, ℕ, Bool, true, List, [], ◌++◌, Option, Some, None, MatchOption, Result, Ok, Err, ⊤}
use Rattle.std.specs.Io.KnownBytes.{Appends, Keeps}
use Rattle.br_data.specs.BodyWritten.{AppendsFront}
use Rattle.br_model.specs.Answer.{◌>>=◌, refused_as, IsRefusal}
use Rattle.br_model.specs.Volume.{Volume}
use Rattle.br_model.specs.Bootstrap.{canonical}
use Rattle.br_model.specs.Meaning as model
use Rattle.br_model.specs.Meaning.{pieces_of}
use Rattle.br_model.specs.Restored.{Restored}
use Rattle.br_model.specs.Manifest.{manifest}
use Rattle.br_model.specs.Job.{JobRows}
use Rattle.br_model.specs.Choice.{Request, choose}
use Rattle.br_model.specs.View.{view_of}
use Rattle.br_model.specs.Console.{at_start, console_lines, dialogue, marks_at_done}
use Rattle.br_model.specs.Plan.{Plan, plan_of}
use Rattle.br_plan.specs.Fault as plan
use Rattle.br_mark.specs.Seen.{Situation}
use Rattle.br_engine.specs.Restoring.{Told, AllStand, restored_files}
use Rattle.br_engine.specs.Outputs.{EndTells, InSink, are_files}
use Rattle.br_engine.specs.declared.extracted.Extracted.{Extracted}
use Rattle.br_engine.specs.declared.fault.ExtractFault.{ExtractFault}
use Rattle.br_engine.specs.declared.fault.ExtractFault.TheVariants as extract
use Rattle.br_console.specs.ConsoleFault.{Refusal, OfPlan, OfPiece, WritesFront, cause, fault_number}
use Rattle.br_console.specs.ConsoleEnding.{EndIs, EndsWanted, LeavesMissing, TellsMissing, are_accepted}
use Rattle.br_console.specs.Talking.{are_answered}
use Rattle.br_console.specs.declared.console_fault.ConsoleFault.{ConsoleFault}
use Rattle.br_console.specs.declared.console_fault.ConsoleFault.TheVariants as fault
use Rattle.br_console.specs.declared.ending.LineVerdict.{LineVerdict}
use Rattle.br_console.specs.declared.ending.End.{End}
use Rattle.br_console.specs.declared.ending.End.TheVariants.{Done, Quit}
use Rattle.br_console.specs.declared.ending.ConsoleRun.{ConsoleRun}
use Rattle.br_types.specs.declared.wanted.Wanted.{Wanted}

-- ---- before a drive is used

-- the console over the view of the chosen jobs, at the root and without marks; or the refusal of the choice
unfoldable pub opening : List JobRows → Request → Result Situation ℕ
opening history q = do
  jobs ← choose history q
  Ok (record { view = view_of jobs; state = at_start })

-- what is written before a drive is used, if no line was refused, and the plan, if the dialogue
-- ended with `done`
pub record Begun : Type 0 where
  pub text : List ℕ
  pub is_clean : Bool
  pub plan : Result (Option Plan) ℕ

-- after a dialogue that ended with `done` comes the bootstrap of the plan, unless the plan is
-- refused
abbrev pub with_plan : List ℕ → Bool → Result Plan ℕ → Begun
with_plan text clean (Ok plan) = record { text = text ++ canonical plan.groups; is_clean = clean; plan = Ok (Some plan) }
with_plan text clean (Err n) = record { text = text; is_clean = clean; plan = Err n }

-- what follows a dialogue with these marks at its `done`, if there is one
abbrev pub with_marks : List JobRows → Request → List ℕ → Bool → Option (List (List ℕ)) → Begun
with_marks history q text clean None = record { text = text; is_clean = clean; plan = Ok None }
with_marks history q text clean (Some marks) = with_plan text clean (plan_of history q marks)

-- the dialogue of these lines with the console, unless the choice is refused
abbrev pub with_console : List JobRows → Request → List (List ℕ) → Result Situation ℕ → Begun
with_console history q lines (Ok s) =
    with_marks history q (dialogue s.view s.state lines) (are_answered s.view s.state lines) (marks_at_done s.view s.state lines)
with_console history q lines (Err n) = record { text = []; is_clean = true; plan = Err n }

-- all that comes before a drive is used, for the lines of a text
unfoldable pub begun : List JobRows → Request → List ℕ → Begun
begun history q text = with_console history q (console_lines text) (opening history q)

-- ---- the whole of a run

-- what a run returns: whether no line was refused, and whether each outcome is a file, if the
-- dialogue ended with `done`
pub record Answer : Type 0 where
  pub is_clean : Bool
  pub restored : Option Bool

-- what is written, and what is returned or refused
pub record Run : Type 0 where
  pub text : List ℕ
  pub answer : Result Answer Refusal

-- after what was written comes the manifest of the files, or the fault of a piece and nothing more
abbrev pub with_files : List ℕ → Bool → Result (List Restored) model.PieceFault → Run
with_files text clean (Ok rs) = record { text = text ++ manifest rs; answer = Ok (record { is_clean = clean; restored = Some (are_files rs) }) }
with_files text clean (Err why) = record { text = text; answer = Err (OfPiece why) }

-- the planned files over volumes, under their names; without a plan nothing more
abbrev pub over_volumes : List ℕ → Bool → List Volume → Result (Option Plan) ℕ → Run
over_volumes text clean volumes (Ok None) = record { text = text; answer = Ok (record { is_clean = clean; restored = None }) }
over_volumes text clean volumes (Ok (Some plan)) = with_files text clean (restored_files plan.groups (Some plan.names) volumes)
over_volumes text clean volumes (Err n) = record { text = text; answer = Err (OfPlan n) }

-- a run over volumes, from the state before a drive is used
abbrev pub run_from : Begun → List Volume → Run
run_from b volumes = over_volumes b.text b.is_clean volumes b.plan

-- the run of a request with the lines of a text over volumes
unfoldable pub console_run : List JobRows → Request → List ℕ → List Volume → Run
console_run history q text volumes = run_from (begun history q text) volumes

-- ---- what a run returns

-- a run returned this
abbrev pub Shows : ConsoleRun → Answer → Type 0
Shows run answer = (are_accepted run.lines ≡ answer.is_clean) × EndIs run.end answer.restored

-- The refusal is the expected one, and what is expected was appended to what the writer held. There
-- is no refusal to compare if memory ran out, no drive is left, a volume was changed, the lines have
-- no end, or reading or writing failed, which may happen at any time. Then a beginning of what is
-- expected was appended, unless reading or writing failed.
abbrev pub RefusesRun : Option (List ℕ) → Option (List ℕ) → Run → ConsoleFault → Type 0
RefusesRun before after expected why =
    MatchOption (cause why) (WritesFront before after expected.text why) (λ e. (expected.answer ≡ Err e) × Appends before after expected.text)

-- what is returned is as expected, and what is expected was appended to what the writer held
abbrev pub Runs : Option (List ℕ) → Option (List ℕ) → Result ConsoleRun ConsoleFault → Run → Type 0
Runs before after (Ok run) expected = (answer : Answer) × (expected.answer ≡ Ok answer) × Shows run answer × Appends before after expected.text
Runs before after (Err why) expected = RefusesRun before after expected why

-- each of the drives may be taken to show these volumes, for the pieces of the plan if there is one
abbrev pub AllStandForPlan : Told → Told → Begun → List Volume → Type 0
AllStandForPlan earlier later b volumes = (plan : Plan) → b.plan ≡ Ok (Some plan) → AllStand earlier later (pieces_of plan.groups) volumes

-- if the reader reports its bytes, there are no volumes that each of the drives may be taken to show
abbrev pub NoneStandForPlan : Option (List ℕ) → Told → Told → List JobRows → Request → Type 0
NoneStandForPlan (Some text) earlier later history q =
    (volumes : List Volume) → AllStandForPlan earlier later (begun history q text) volumes → ⊥
NoneStandForPlan None earlier later history q = ⊤

-- if the reader reports its bytes, the run is that of these bytes over all volumes that each of the
-- drives may be taken to show
abbrev pub RunsOver : Option (List ℕ) → Told → Told → Option (List ℕ) → Option (List ℕ) → List JobRows → Request → Result ConsoleRun ConsoleFault → Type 0
RunsOver (Some text) earlier later before after history q result =
    (volumes : List Volume) → AllStandForPlan earlier later (begun history q text) volumes → Runs before after result (console_run history q text volumes)
RunsOver None earlier later before after history q result = ⊤

-- ---- a run over any drives

-- Without a plan nothing is written beyond what is written before a drive is used. Otherwise the
-- manifest of some files follows it, and the end says if each of them is a file.
abbrev pub Ends : Option (List ℕ) → Option (List ℕ) → Begun → End → Type 0
Ends before after b Quit = (b.plan ≡ Ok None) × Appends before after b.text
Ends before after b (Done done) =
    (plan : Plan) × (rs : List Restored) × (b.plan ≡ Ok (Some plan)) × EndTells done.end rs × Appends before after (b.text ++ manifest rs)

-- The choice or the plan is refused with this number, and what comes before it was written. If
-- memory ran out for it, a beginning of what is written before a drive is used was written.
abbrev pub RefusesPlan : Option (List ℕ) → Option (List ℕ) → Begun → Option ℕ → Type 0
RefusesPlan before after b None = AppendsFront before after b.text
RefusesPlan before after b (Some n) = (b.plan ≡ Err n) × Appends before after b.text

-- Whatever the drives do, what is written before one is used was written first. Nothing more is
-- written if the choice or the plan is refused, a piece by any fault, or a volume was changed. If
-- memory ran out, or the lines have no end, a beginning of it was written, and nothing else.
abbrev pub Tells : Option (List ℕ) → Option (List ℕ) → Begun → Result ConsoleRun ConsoleFault → Type 0
Tells before after b (Ok run) = (b.is_clean ≡ are_accepted run.lines) × Ends before after b run.end
Tells before after b (Err fault.Memory) = AppendsFront before after b.text
Tells before after b (Err (fault.Plan why)) = RefusesPlan before after b (plan.cause why)
Tells before after b (Err (fault.Piece why)) = (plan : Plan) × (b.plan ≡ Ok (Some plan)) × Appends before after b.text
Tells before after b (Err fault.Changed) = (plan : Plan) × (b.plan ≡ Ok (Some plan)) × Appends before after b.text
Tells before after b (Err (fault.Io why)) = ⊤
Tells before after b (Err (fault.NoEnd turns)) = AppendsFront before after b.text

-- the same if the reader reports its bytes
abbrev pub TellsOver : Option (List ℕ) → Option (List ℕ) → Option (List ℕ) → List JobRows → Request → Result ConsoleRun ConsoleFault → Type 0
TellsOver (Some text) before after history q result = Tells before after (begun history q text) result
TellsOver None before after history q result = ⊤

-- ---- the steps of a run

-- The plan for the marks was made and its bootstrap written. Or it is refused or memory ran out, and
-- nothing was written.
abbrev pub WritesPlan : Option (List ℕ) → Option (List ℕ) → Result Plan ℕ → Result Plan ConsoleFault → Type 0
WritesPlan before after expected (Ok plan) = (expected ≡ Ok plan) × Appends before after (canonical plan.groups)
WritesPlan before after expected (Err fault.Memory) = Keeps before after
WritesPlan before after expected (Err (fault.Plan why)) = IsRefusal (plan.cause why) expected × Keeps before after
WritesPlan before after expected (Err (fault.Piece why)) = ⊥
WritesPlan before after expected (Err fault.Changed) = ⊥
WritesPlan before after expected (Err (fault.Io why)) = ⊤
WritesPlan before after expected (Err (fault.NoEnd turns)) = ⊥

-- What is expected before a drive is used was written, with the expected lines and plan. Or the
-- choice or the plan is refused as expected. If memory ran out, or the lines have no end, a beginning
-- of it was written.
abbrev pub Begins : Option (List ℕ) → Option (List ℕ) → Begun → Result (LineVerdict × Option Plan) ConsoleFault → Type 0
Begins before after b (Ok made) = (b.is_clean ≡ are_accepted made.0) × (b.plan ≡ Ok made.1) × Appends before after b.text
Begins before after b (Err fault.Memory) = AppendsFront before after b.text
Begins before after b (Err (fault.Plan why)) = RefusesPlan before after b (plan.cause why)
Begins before after b (Err (fault.Piece why)) = ⊥
Begins before after b (Err fault.Changed) = ⊥
Begins before after b (Err (fault.Io why)) = ⊤
Begins before after b (Err (fault.NoEnd turns)) = AppendsFront before after b.text

-- the same if the reader reports its bytes
abbrev pub BeginsOver : Option (List ℕ) → Option (List ℕ) → Option (List ℕ) → List JobRows → Request → Result (LineVerdict × Option Plan) ConsoleFault → Type 0
BeginsOver (Some text) before after history q result = Begins before after (begun history q text) result
BeginsOver None before after history q result = ⊤

-- a statement about the files that a plan gives, or about the fault of a piece
abbrev pub Said : Type 1
Said = Result (List Restored) model.PieceFault → Type 0

-- this holds of what a plan gives over all volumes that each of the drives may be taken to show
abbrev pub OverPlan : Told → Told → Plan → Said → Type 0
OverPlan earlier later plan holds =
    (volumes : List Volume) → AllStand earlier later (pieces_of plan.groups) volumes → holds (restored_files plan.groups (Some plan.names) volumes)

-- after the fault of a piece, if a volume was changed or memory ran out, nothing was written
abbrev pub StopsAt : Option (List ℕ) → Option (List ℕ) → ConsoleFault → Type 0
StopsAt before after fault.Memory = Keeps before after
StopsAt before after (fault.Plan why) = ⊥
StopsAt before after (fault.Piece why) = Keeps before after
StopsAt before after fault.Changed = Keeps before after
StopsAt before after (fault.Io why) = ⊤
StopsAt before after (fault.NoEnd turns) = ⊥

-- The files are those of the plan, their manifest was written, and the restore ended as wanted. Or
-- the refusal is the fault of a piece, and nothing was put.
abbrev pub RestoresPlan : Wanted → Told → Told → Option (List ℕ) → Option (List ℕ) → InSink → InSink → Plan → Result Extracted ConsoleFault → Type 0
RestoresPlan wanted earlier later before after had has plan (Ok done) =
    (rs : List Restored) × OverPlan earlier later plan (λ expected. expected ≡ Ok rs) × Appends before after (manifest rs) × EndsWanted wanted had has rs done
    × TellsMissing wanted plan rs done
RestoresPlan wanted earlier later before after had has plan (Err why) =
    OverPlan earlier later plan (λ expected. IsRefusal (cause why) (refused_as OfPiece expected)) × StopsAt before after why × (has ≡ had)

-- the fault of a restore as one of a run
abbrev pub BecomesFault : ExtractFault → ConsoleFault → Type 0
BecomesFault extract.Memory why = why ≡ fault.Memory
BecomesFault (extract.Bootstrap e) why = ⊥
BecomesFault (extract.Piece e) why = why ≡ fault.Piece e
BecomesFault extract.Changed why = why ≡ fault.Changed
BecomesFault (extract.Io e) why = why ≡ fault.Io e
BecomesFault (extract.NoEnd turns) why = ⊥

-- each drive failed
abbrev pub IsNoDriveLeft : ConsoleFault → Type 0
IsNoDriveLeft why = fault_number why ≡ Some 70

-- ---- the files of a run

-- Without files the dialogue did not end with `done`, and what comes before a drive is used was
-- written. Otherwise these are the files of the plan, and their manifest follows it.
abbrev pub Restores : Told → Told → Option (List ℕ) → Option (List ℕ) → Begun → Option (List Restored) → Type 0
Restores earlier later before after b None = (b.plan ≡ Ok None) × Appends before after b.text
Restores earlier later before after b (Some rs) =
    (plan : Plan) × (b.plan ≡ Ok (Some plan)) × OverPlan earlier later plan (λ expected. expected ≡ Ok rs) × Appends before after (b.text ++ manifest rs)

-- the same if the reader reports its bytes, and whether no line was refused
abbrev pub RestoresOver : Option (List ℕ) → Told → Told → Option (List ℕ) → Option (List ℕ) → List JobRows → Request → Bool → Option (List Restored) → Type 0
RestoresOver (Some text) earlier later before after history q clean files =
    ((begun history q text).is_clean ≡ clean) × Restores earlier later before after (begun history q text) files
RestoresOver None earlier later before after history q clean files = ⊤

-- what the plan of these lines asks for and the files lack is told, if the reader reports its bytes
abbrev pub MissingOver : Option (List ℕ) → List JobRows → Request → Wanted → End → Option (List Restored) → Type 0
MissingOver (Some text) history q wanted end files = LeavesMissing (begun history q text).plan wanted end files
MissingOver None history q wanted end files = ⊤
