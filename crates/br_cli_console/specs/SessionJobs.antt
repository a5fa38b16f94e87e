-- The request of a session, and the jobs that it is over.
use Rattle.std.specs.Prelude.{◌≡◌, ℕ, List, Option, Result}
use Rattle.br_model.specs.Choice.{Request, choose}
use Rattle.br_model.specs.Job.{JobRows}
use Rattle.br_history.specs.Needed.{needed_for}
use Rattle.br_cli_common.specs.declared.options.ConsoleOptions.{ConsoleOptions}
use Rattle.br_cli_common.specs.declared.options.FileRows.{FileRows}
use Rattle.br_plan.specs.RequestWords.{checked_request}
use Rattle.br_console.specs.Running.{begun}
use Rattle.br_cli_listing.specs.LoadedJobs.{AreLoaded, loaded}
use Rattle.br_cli_console.specs.declared.console_command.ConsoleJobs.{ConsoleJobs}

-- the request of `console`, or why it is refused
abbrev pub request_asked : ConsoleOptions → Result Request ℕ
request_asked given = checked_request given.client.now given.fileset.now given.before.now

-- the jobs of a session are those of a catalogue, with all files or with those that its request needs
abbrev pub AreJobsOf : Option (List JobRows) → FileRows → ConsoleJobs → Type 0
AreJobsOf told rows jobs = AreLoaded told rows (needed_for jobs.request) jobs.history

-- A law: with the files of the chosen jobs alone a session is what it is with all files. The request
-- chooses the same, or has the same refusal, and dialogue, bootstrap, plan and names are the same.
abbrev pub SessionsAlike : Type 0
SessionsAlike =
    (rows : FileRows) (q : Request) (jobs : List JobRows) (text : List ℕ)
    → (choose (loaded rows (needed_for q) jobs) q ≡ choose jobs q) × (begun (loaded rows (needed_for q) jobs) q text ≡ begun jobs q text)
