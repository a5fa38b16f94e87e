-- Committed jobs with the volumes before each, seen as a state without restores.
use Rattle.std.specs.Prelude.{◌≡◌, ◌∷◌, ◌++◌, List, [], length, map}
use Rattle.std.specs.List.{zip}
use Rattle.br_model.specs.Volume.{Volume}
use Rattle.br_model.specs.Job.{JobRows, Job}
use Rattle.br_model.specs.Session.{ToSave}
use Rattle.br_history.specs.Saving.{ToCommit}
use Rattle.br_volume.specs.MemStore.{Stored}
use Rattle.br_history.specs.Committing.{AreWhole}
use Rattle.br_core.specs.Machine.{World}

-- a committed job, and the volumes before it
pub record Committed : Type 0 where
  pub job : ToCommit
  pub before : List Volume

-- the job with the saved files
abbrev pub job_with : JobRows × Committed → Job
job_with p = record { rows = p.0; saved = map (λ (f : ToSave). f.file) p.1.job.files }

-- the jobs: their rows, each with what was saved
abbrev pub jobs_of : List JobRows → List Committed → List Job
jobs_of history commits = map job_with (zip history commits)

-- the state of these jobs and volumes
abbrev pub backups_of : List JobRows → List Committed → List Volume → World
backups_of history commits volumes = record {
  jobs = jobs_of history commits;
  volumes = volumes;
  earlier = map (λ (c : Committed). c.before) commits;
  restores = [];
}

-- each of the rows is of a commit, and the volumes consist of whole blocks
pub record AreBackups (history : List JobRows) (commits : List Committed) (volumes : List Volume) : Type 0 where
  pub each : length commits ≡ length history
  pub whole : AreWhole volumes

-- rows and a commit are added after the others, and these are the volumes after it
pub record IsAdded (history : List JobRows) (commits : List Committed) (rows : JobRows) (c : Committed) (later : List Volume)
    (history' : List JobRows) (commits' : List Committed) (volumes' : List Volume) : Type 0 where
  pub history_is : history' ≡ history ++ rows ∷ []
  pub commits_are : commits' ≡ commits ++ c ∷ []
  pub volumes_are : volumes' ≡ later

-- rows and a job are added, the job with the volumes before it, and these are the volumes after it
abbrev pub AddsJob : JobRows → ToCommit → Stored → List JobRows → List Committed → Stored → List JobRows → List Committed → Stored → Type 0
AddsJob rows job later history commits volumes history' commits' volumes' =
    IsAdded history commits rows (record { job = job; before = volumes.volumes }) later.volumes history' commits' volumes'.volumes
