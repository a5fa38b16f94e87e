-- What `jobs` lists, and what it marks.
use Rattle.std.specs.Prelude.{◌≡◌, ℕ, List, [], map, Option, Some, None, Result, Ok, Err}
use Rattle.std.specs.Borrow.{Bor}
use Rattle.br_model.specs.Answer.{◌>>=◌, IsRefusal}
use Rattle.br_model.specs.Choice.{choose}
use Rattle.br_model.specs.Job.{JobRows}
use Rattle.br_model.specs.Name.{checked_name}
use Rattle.br_choose.specs.Wanted.{request_for}
use Rattle.br_jobs.specs.JobFilter.{jobs_listed}
use Rattle.br_jobs.specs.LocalTime.{AreLinesIn}
use Rattle.br_jobs.specs.declared.job_filter.Filter.{Filter}
use Rattle.br_jobs.specs.ListingFault.{cause}
use Rattle.br_jobs.specs.PurgedJobs.{WarnsOf}
use Rattle.br_jobs.specs.declared.job_marks.MarkedLines.{MarkedLines}
use Rattle.br_jobs.specs.declared.listing_fault.ListingFault.{ListingFault}
use Rattle.br_jobs.specs.declared.time_zones.Zones.{Zones}

-- the jobs that are chosen for a client, a file set and a moment; 2 if a name is invalid
unfoldable pub chosen_for : List JobRows → List ℕ → List ℕ → ℕ → Result (List JobRows) ℕ
chosen_for history client fileset moment = do
  c ← checked_name client
  s ← checked_name fileset
  choose history (request_for c s moment)

-- the jobs that are marked: those that are chosen if all three are given, else none
abbrev pub marked : List JobRows → Option (Bor (List ℕ)) → Option (Bor (List ℕ)) → Option ℕ → Result (List JobRows) ℕ
marked history (Some client) (Some fileset) (Some moment) = chosen_for history client.now fileset.now moment
marked history None fileset moment = Ok []
marked history (Some client) None moment = Ok []
marked history (Some client) (Some fileset) None = Ok []

-- those that a filter marks
abbrev pub marks : List JobRows → Filter → Result (List JobRows) ℕ
marks history f = marked history f.client f.fileset f.before

-- The lines of the jobs that a filter lists with their moments in these zones, with those marked
-- that are chosen, and the warnings of the chosen; or why none is chosen.
abbrev pub MarksLines : Zones → List JobRows → Filter → Result MarkedLines ListingFault → Type 0
MarksLines zones history f (Ok text) =
    (chosen : List (Bor JobRows)) × (marks history f ≡ Ok (map (λ (j : Bor JobRows). j.now) chosen))
    × AreLinesIn zones chosen (jobs_listed f history) text.lines.items × WarnsOf chosen text.warnings.items
MarksLines zones history f (Err fault) = IsRefusal (cause fault) (marks history f)
