-- The tasks of `console`: a session, over drives, writers and a sink.
use Rattle.std.specs.Prelude.{◌≡◌, ◌⊎◌, ℕ, true, is_some, List, map, Option, Some, None, option_map, Result, Ok, Err, ⊤}
use Rattle.std.specs.Borrow.{Bor}
use Rattle.std.specs.Io.KnownBytes.{Keeps}
use Rattle.std.specs.declared.io.Write as write
use Rattle.br_volume.specs.declared.drive.Drive as drive
use Rattle.br_sink.specs.declared.sink.Sink as sink
use Rattle.br_engine.specs.Outputs.{InSink}
use Rattle.br_engine.specs.Restores.{Change}
use Rattle.br_engine.specs.Restoring.{Told}
use Rattle.br_engine.specs.declared.restore.Restore.{Restore}
use Rattle.br_model.specs.Answer.{IsRefusal}
use Rattle.br_model.specs.Plan.{Plan}
use Rattle.br_model.specs.Text.{is_empty}
use Rattle.br_plan.specs.Asked.{Asked}
use Rattle.br_plan.specs.Fault as plan
use Rattle.br_console.specs.ConsoleEnding.{are_accepted}
use Rattle.br_console.specs.Delivering.{BeginsInto, FinishesInto, Puts}
use Rattle.br_console.specs.MarkedPaths.{missed_of_paths, plan_of_paths, texts}
use Rattle.br_console.specs.declared.ending.LineVerdict.{LineVerdict}
use Rattle.br_console.specs.declared.ending.ConsoleRun.{ConsoleRun}
use Rattle.br_console.specs.declared.console_fault.ConsoleFault.{ConsoleFault}
use Rattle.br_console.specs.declared.console_fault.ConsoleFault.TheVariants as fault
use Rattle.br_damage.specs.NarrowedBootstrap.{IsNarrowedOf}
use Rattle.br_match.specs.declared.fault.PieceFault.{PieceFault}
use Rattle.br_cli_target.specs.LostVolumes.{damage}
use Rattle.br_cli_common.specs.declared.options.Marks.{Marks}
use Rattle.br_cli_common.specs.declared.options.Marks.TheVariants as marks
use Rattle.br_cli_progress.specs.declared.watched_sink.WatchedSink.{WatchedSink}
use Rattle.br_sink_tar.specs.Stream.{InTar}
use Rattle.br_types.specs.declared.wanted.Wanted.{Wanted}
use Rattle.br_cli_console.specs.ConsoleCommandEnding.{extent}
use Rattle.br_cli_console.specs.declared.session_manifest.Outputs.{Outputs}
use Rattle.br_cli_console.specs.declared.session_manifest.SessionInput.{SessionInput}
use Rattle.br_cli_console.specs.declared.session_manifest.SessionInput.TheVariants as input
use Rattle.br_cli_target.specs.TarEnding.{StreamHolds, told_inside}
use Rattle.br_cli_target.specs.declared.target_tar.Streamed.{Streamed}

-- the volumes that the drives report, what the writer of the answers holds and that of the manifest,
-- if there is one, and the files that the sink has
pub record SessionSeen : Type 0 where
  pub told : Told
  pub answers : Option (List ℕ)
  pub manifest : Option (Option (List ℕ))
  pub has : InSink

-- these before and after a session
pub record SessionChange : Type 0 where
  pub old : SessionSeen
  pub new : SessionSeen

-- what changes, with what the writers of the answers held and hold
abbrev pub by_answers : SessionChange → Change
by_answers seen = record {
  old = record { told = seen.old.told; written = seen.old.answers; has = seen.old.has };
  new = record { told = seen.new.told; written = seen.new.answers; has = seen.new.has };
}

-- what changes, with what the writer of the manifest held and holds
abbrev pub by_manifest : SessionChange → Option (List ℕ) → Option (List ℕ) → Change
by_manifest seen held holds = record {
  old = record { told = seen.old.told; written = held; has = seen.old.has };
  new = record { told = seen.new.told; written = holds; has = seen.new.has };
}

-- A session whose manifest goes to a writer that held and holds this. What comes before a drive is
-- used goes to the writer of the answers, and what follows it to that of the manifest.
abbrev pub RunsApart : Option (List ℕ) → Option (List ℕ) → Bor Asked × Wanted → Option (List ℕ) → SessionChange → Result ConsoleRun ConsoleFault → Type 0
RunsApart held holds order lines seen result =
    (prepared : Result (LineVerdict × Option Plan) ConsoleFault) × BeginsInto lines seen.old.answers seen.new.answers order.0.now prepared
    × FinishesInto order.1 (by_manifest seen held holds) prepared result

-- the session, by what the writer of the manifest held and holds, if there is one
abbrev pub RunsWith : Option (Option (List ℕ)) → Option (Option (List ℕ)) → Bor Asked × Wanted → Option (List ℕ) → SessionChange → Result ConsoleRun ConsoleFault → Type 0
RunsWith None None order lines seen result = Puts order.1 lines (by_answers seen) order.0.now result
RunsWith (Some held) (Some holds) order lines seen result = RunsApart held holds order lines seen result
RunsWith (Some held) None order lines seen result = ⊥
RunsWith None (Some holds) order lines seen result = ⊥

-- the session of the lines over the selected jobs, with what is wanted
abbrev pub RunsBy : Bor Asked × Wanted → Option (List ℕ) → SessionChange → Result ConsoleRun ConsoleFault → Type 0
RunsBy order lines seen result = RunsWith seen.old.manifest seen.new.manifest order lines seen result

-- what comes of the part of a session before a drive is used
abbrev pub Prepared : Type 0
Prepared = Result (LineVerdict × Option Plan) ConsoleFault

-- the rest of a session after that, by what the writer of the manifest held and holds, if there is one
abbrev pub FinishesWith : Option (Option (List ℕ)) → Option (Option (List ℕ)) → Wanted → SessionChange → Prepared → Result ConsoleRun ConsoleFault → Type 0
FinishesWith None None wanted seen prepared result = FinishesInto wanted (by_answers seen) prepared result
FinishesWith (Some held) (Some holds) wanted seen prepared result = FinishesInto wanted (by_manifest seen held holds) prepared result
FinishesWith (Some held) None wanted seen prepared result = ⊥
FinishesWith None (Some holds) wanted seen prepared result = ⊥

-- the rest of a session, with what is wanted
abbrev pub FinishesBy : Wanted → SessionChange → Prepared → Result ConsoleRun ConsoleFault → Type 0
FinishesBy wanted seen prepared result = FinishesWith seen.old.manifest seen.new.manifest wanted seen prepared result

-- ---- sessions that end at a damaged volume

-- what the writer of the manifest held, if there is one, it holds
abbrev pub KeepsEach : Option (Option (List ℕ)) → Option (Option (List ℕ)) → Type 0
KeepsEach None None = ⊤
KeepsEach (Some held) (Some holds) = Keeps held holds
KeepsEach (Some held) None = ⊥
KeepsEach None (Some holds) = ⊥

-- nothing was put, or written to a manifest of its own
pub record IsUnused (before at : SessionSeen) : Type 0 where
  pub has : at.has ≡ before.has
  pub manifest : KeepsEach before.manifest at.manifest

-- the fault of a damaged volume, if the run ended at one
abbrev pub damage_of : Result ConsoleRun ConsoleFault → Option PieceFault
damage_of (Err (fault.Piece why)) = damage why
damage_of _ = None

abbrev pub IsDamage : Result ConsoleRun ConsoleFault → Type 0
IsDamage run = is_some (damage_of run) ≡ true

-- the session of the lines that a reader has, or the rest of one that was prepared
abbrev pub RunsOn : {R : Type 0} → (R → Option (List ℕ)) → Bor Asked × Wanted → SessionInput R → SessionChange → Result ConsoleRun ConsoleFault → Type 0
RunsOn remaining order (input.Lines reader) seen result = RunsBy order (remaining reader) seen result
RunsOn remaining order (input.Prepared prepared) seen result = FinishesBy order.1 seen prepared result

-- the patterns that meet no path, of which the session tells whether there are some
abbrev pub TellsMissed : Result (List (List ℕ)) ℕ → LineVerdict → Type 0
TellsMissed missed lines = (patterns : List (List ℕ)) × (missed ≡ Ok patterns) × (are_accepted lines ≡ is_empty patterns)

-- the bootstrap of a plan is narrowed to what is left of its volumes, and the plan names the same files
pub record IsNarrowedPlan (whole left : Plan) : Type 0 where
  pub names : left.names ≡ whole.names
  pub missing : List ℕ
  pub groups : IsNarrowedOf whole.groups left.groups missing

-- the plan is the same, or narrowed
abbrev pub IsLeftOf : Plan → Plan → Type 0
IsLeftOf whole left = (left ≡ whole) ⊎ IsNarrowedPlan whole left

-- a plan was made, and this is what is left of it
abbrev pub IsLeftOfMade : Result Plan ℕ → Plan → Type 0
IsLeftOfMade made left = (whole : Plan) × (made ≡ Ok whole) × IsLeftOf whole left

-- The plan is that of the paths which the patterns name, or what is left of it without lost volumes, or
-- refused as that is. It counts as refused lines if a pattern meets no path.
abbrev pub PreparesPaths : Asked → List (List ℕ) → Prepared → Type 0
PreparesPaths asked patterns (Ok (lines, Some plan)) = IsLeftOfMade (plan_of_paths asked patterns) plan × TellsMissed (missed_of_paths asked patterns) lines
PreparesPaths asked patterns (Ok (lines, None)) = ⊥
PreparesPaths asked patterns (Err fault.Memory) = ⊥
PreparesPaths asked patterns (Err (fault.Plan why)) = IsRefusal (plan.cause why) (plan_of_paths asked patterns)
PreparesPaths asked patterns (Err (fault.Piece why)) = ⊥
PreparesPaths asked patterns (Err fault.Changed) = ⊥
PreparesPaths asked patterns (Err (fault.Io why)) = ⊥
PreparesPaths asked patterns (Err (fault.NoEnd turns)) = ⊥

-- what a session by these marks runs on: lines, or what the patterns prepare
abbrev pub IsInputOf : {R : Type 0} → Asked → Marks → SessionInput R → Type 0
IsInputOf asked marks.Lines (input.Lines reader) = ⊤
IsInputOf asked marks.Lines (input.Prepared prepared) = ⊥
IsInputOf asked (marks.Patterns patterns) (input.Lines reader) = ⊥
IsInputOf asked (marks.Patterns patterns) (input.Prepared prepared) = PreparesPaths asked (texts patterns.items) prepared

-- what patterns prepare, which mark the paths
abbrev pub PreparesBy : Asked → Marks → Prepared → Type 0
PreparesBy asked marks.Lines prepared = ⊥
PreparesBy asked (marks.Patterns patterns) prepared = PreparesPaths asked (texts patterns.items) prepared

-- The rest of a session was prepared once more, and was the last. Nothing was put before.
pub record RunsAgain (order : Bor Asked × Wanted) (by : Marks) (seen : SessionChange) (run : Result ConsoleRun ConsoleFault) : Type 0 where
  pub prepared : Prepared
  pub is : PreparesBy order.0.now by prepared
  pub at : SessionSeen
  pub unused : IsUnused seen.old at
  pub runs : FinishesBy order.1 (record { old = at; new = seen.new }) prepared run

-- the session by these marks ran on what it was to run on, or on what was prepared later
abbrev pub RunsLast : {R : Type 0} → (R → Option (List ℕ)) → Bor Asked × Wanted → Marks × SessionInput R → SessionChange → Result ConsoleRun ConsoleFault → Type 0
RunsLast remaining order first seen run = RunsOn remaining order first.1 seen run ⊎ RunsAgain order first.0 seen run

-- what a session shows, if its sink has these files
abbrev pub shows : {D W M S : Type 0} → drive.Ghosts D → write.Ghosts W → write.Ghosts M → Restore D S × Outputs W M → InSink → SessionSeen
shows drives answers manifest at has = record {
  told = map drives.shows at.0.drives.items;
  answers = answers.contents at.1.answers;
  manifest = option_map manifest.contents at.1.manifest;
  has = has;
}

-- the change by a session
abbrev pub session : {D W M S : Type 0} → drive.Ghosts D → write.Ghosts W → write.Ghosts M → sink.Ghosts S → Restore D S × Outputs W M → Restore D S × Outputs W M → SessionChange
session drives answers manifest sink before after = record {
  old = shows drives answers manifest before (option_map sink.has before.0.sink);
  new = shows drives answers manifest after (option_map sink.has after.0.sink);
}

-- the change by a session into a tar stream, if the sink then has these files
abbrev pub tar : {D W M : Type 0} → drive.Ghosts D → write.Ghosts W → write.Ghosts M → Restore D (WatchedSink InTar) × Outputs W M → Restore D (WatchedSink InTar) × Outputs W M → InSink → SessionChange
tar drives answers manifest before after now = record {
  old = shows drives answers manifest before (option_map told_inside before.0.sink);
  new = shows drives answers manifest after now;
}

-- The sink's stream is that of the files that were reported to it. It has an end if all files were put
-- and the end could be written. `runs` says how the session runs, and `seen` what changes, if these files
-- were reported.
abbrev pub Streams : {T : Type 0} → (SessionChange → Result ConsoleRun ConsoleFault → Type 0) → (InSink → SessionChange) → (T → Option (List ℕ)) → Streamed (Result ConsoleRun ConsoleFault) T → Type 0
Streams runs seen holds s =
    (now : InSink) × runs (seen now) s.run × StreamHolds (extent s.run) now s.end (option_map holds s.writer)
