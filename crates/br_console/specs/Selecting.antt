-- The theorem that a run of the console serves: marked files come back as they were saved.
use Rattle.std.specs.Prelude.{◌≡◌, ℕ, Bool, true, false, List, ◌++◌, Option, Some, None, Result, Ok, Err, Contains}
use Rattle.std.specs.Io.KnownBytes.{Appends}
use Rattle.std.specs.List.{AllByRecursion, AllZip}
use Rattle.std.specs.List.Sorted.{IsPermutation}
use Rattle.br_model.specs.Text.{is_empty}
use Rattle.br_model.specs.Volume.{Volume, Extends}
use Rattle.br_model.specs.Restored.{Restored}
use Rattle.br_model.specs.Manifest.{manifest}
use Rattle.br_model.specs.Job.{JobRows, Job, IsJob, is_history}
use Rattle.br_model.specs.Choice.{Request, choose}
use Rattle.br_model.specs.View.{Entry, view_of}
use Rattle.br_model.specs.Console.{at_start, console_lines, marks_at_done}
use Rattle.br_model.specs.Plan.{selection}
use Rattle.br_model.specs.PlanMeaning.{IsCopy, by_key, rows_of_jobs}
use Rattle.br_model.specs.Stored.{Holds}
use Rattle.br_volume.specs.Drive.{OnlyGrows}
use Rattle.br_engine.specs.Restoring.{Told}
use Rattle.br_console.specs.ConsoleFault.{cause}
use Rattle.br_console.specs.Running.{Run, Shows, RunsOver, AllStandForPlan, begun, console_run}
use Rattle.br_console.specs.declared.console_fault.ConsoleFault.{ConsoleFault}
use Rattle.br_console.specs.declared.ending.ConsoleRun.{ConsoleRun}

-- After dialogue and bootstrap a run wrote the manifest of these entries' copies in order of key,
-- one for each entry and no others, and it returns that each outcome is a file.
pub record RestoresAll (jobs : List Job) (selected : List Entry) (before : List ℕ) (run : Run) (clean : Bool) : Type 0 where
  pub copies : List Restored
  pub text_is : run.text ≡ before ++ manifest copies
  pub answer_is : run.answer ≡ Ok (record { is_clean = clean; restored = Some true })
  pub are_copies : AllZip (IsCopy jobs) (by_key selected) copies
  pub are_all : IsPermutation selected (by_key selected)

-- the volumes hold those of these jobs that are chosen
abbrev pub AllHold : List Volume → List Job → List JobRows → Type 0
AllHold volumes jobs chosen = (j : Job) → Contains jobs j → Contains chosen j.rows → Holds volumes j

-- A law about jobs and what they saved. If the lines end with `done` while some paths of the view
-- are marked, and volumes hold the chosen jobs, then the run over all volumes that extend these
-- restores the marked entries of the view of the chosen jobs.
abbrev pub RunsMeanSelection : Type 0
RunsMeanSelection =
    (jobs : List Job) (q : Request) (text : List ℕ) (chosen : List JobRows) (marks : List (List ℕ)) (volumes later : List Volume)
    → is_history (rows_of_jobs jobs) ≡ true → AllByRecursion IsJob jobs
    → choose (rows_of_jobs jobs) q ≡ Ok chosen
    → marks_at_done (view_of chosen) at_start (console_lines text) ≡ Some marks
    → is_empty (selection (view_of chosen) marks) ≡ false
    → AllHold volumes jobs chosen
    → Extends later volumes
    → RestoresAll jobs (selection (view_of chosen) marks) (begun (rows_of_jobs jobs) q text).text (console_run (rows_of_jobs jobs) q text later)
    (begun (rows_of_jobs jobs) q text).is_clean

-- A law: what a run does depends on the choice alone, whatever else the history has.
abbrev pub RunsDependOnChoice : Type 0
RunsDependOnChoice =
    (history other : List JobRows) (q : Request) (text : List ℕ) → choose other q ≡ choose history q → begun other q text ≡ begun history q text

-- ---- over drives that show more

-- a drive reports its volumes, and they extend these
abbrev pub ShowsMore : List Volume → Option (List Volume) → Type 0
ShowsMore volumes None = ⊥
ShowsMore volumes (Some shown) = Extends shown volumes

-- before a run each drive shows volumes that extend these, and meanwhile they only grow
abbrev pub AllShowMore : List Volume → Told → Told → Type 0
AllShowMore volumes earlier later = AllByRecursion (ShowsMore volumes) earlier × AllZip OnlyGrows earlier later

-- A law about jobs and what they saved. If volumes hold the chosen jobs, drives that show more than
-- these volumes may be taken to show just these, for the pieces of any plan that the lines make. So
-- what was appended to the volumes before, and what is appended meanwhile, changes nothing.
abbrev pub DrivesStandForPlans : Type 0
DrivesStandForPlans =
    (jobs : List Job) (q : Request) (text : List ℕ) (volumes : List Volume) (earlier later : Told)
    → ((chosen : List JobRows) → choose (rows_of_jobs jobs) q ≡ Ok chosen → AllHold volumes jobs chosen)
    → AllShowMore volumes earlier later
    → AllStandForPlan earlier later (begun (rows_of_jobs jobs) q text) volumes

-- A run appended, after dialogue and bootstrap, the manifest of these entries' copies in order of key, one for each entry and no others,
-- and returned that each outcome is a file.
pub record ReturnsAll (jobs : List Job) (selected : List Entry) (text : List ℕ) (clean : Bool) (before after : Option (List ℕ))
    (run : ConsoleRun) : Type 0 where
  pub copies : List Restored
  pub appended : Appends before after (text ++ manifest copies)
  pub returned : Shows run (record { is_clean = clean; restored = Some true })
  pub are_copies : AllZip (IsCopy jobs) (by_key selected) copies
  pub are_all : IsPermutation selected (by_key selected)

-- the run did this, unless memory ran out, no drive was left, a volume was changed, the lines have no
-- end, or reading or writing failed
abbrev pub ReturnsAllOrFails : List Job → List Entry → List ℕ → Bool → Option (List ℕ) → Option (List ℕ)
    → Result ConsoleRun ConsoleFault → Type 0
ReturnsAllOrFails jobs selected text clean before after (Ok run) = ReturnsAll jobs selected text clean before after run
ReturnsAllOrFails jobs selected text clean before after (Err why) = cause why ≡ None

-- A law about jobs and what they saved. If the lines end with `done` while some paths of the view
-- are marked, volumes hold the chosen jobs, and each drive shows more than these volumes, then the
-- clause `runs` implies that the run restores the marked entries of the view.
abbrev pub RunsRestoreSelection : Type 0
RunsRestoreSelection =
    (jobs : List Job) (q : Request) (text : List ℕ) (chosen : List JobRows) (marks : List (List ℕ)) (volumes : List Volume)
    (earlier later : Told) (before after : Option (List ℕ)) (result : Result ConsoleRun ConsoleFault)
    → is_history (rows_of_jobs jobs) ≡ true → AllByRecursion IsJob jobs
    → choose (rows_of_jobs jobs) q ≡ Ok chosen
    → marks_at_done (view_of chosen) at_start (console_lines text) ≡ Some marks
    → is_empty (selection (view_of chosen) marks) ≡ false
    → AllHold volumes jobs chosen
    → AllShowMore volumes earlier later
    → RunsOver (Some text) earlier later before after (rows_of_jobs jobs) q result
    → ReturnsAllOrFails jobs (selection (view_of chosen) marks) (begun (rows_of_jobs jobs) q text).text
    (begun (rows_of_jobs jobs) q text).is_clean before after result
