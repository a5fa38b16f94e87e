-- A session over the jobs of which the chosen ones alone have files.
use Rattle.std.proofs.Common.{◌≡◌, ℕ, List, refl}
use Rattle.br_model.specs.Choice.{Request, choose}
use Rattle.br_model.specs.Job.{JobRows}
use Rattle.br_history.specs.Needed.{needed_for}
use Rattle.br_history.proofs.NeededLaws.{chosen_choose_alike}
use Rattle.br_console.proofs.ChoiceAloneLaws.{runs_depend_on_choice_lem}
use Rattle.br_cli_common.specs.declared.options.FileRows.{FileRows}
use Rattle.br_cli_common.specs.declared.options.FileRows.TheVariants.{All, Needed}
use Rattle.br_cli_listing.specs.LoadedJobs.{loaded}
use Rattle.br_cli_console.specs.SessionJobs.{SessionsAlike}

choice_is : (rows : FileRows) (q : Request) (jobs : List JobRows) → choose (loaded rows (needed_for q) jobs) q ≡ choose jobs q
choice_is Needed q jobs = chosen_choose_alike jobs q
choice_is All q jobs = refl

pub sessions_alike : SessionsAlike
sessions_alike rows q jobs text =
    (choice_is rows q jobs, runs_depend_on_choice_lem jobs (loaded rows (needed_for q) jobs) q text (choice_is rows q jobs))
