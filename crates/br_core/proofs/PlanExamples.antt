-- The plan of the committed job's file, and volumes that grow meanwhile, by example.
use Rattle.std.proofs.Common.{◌≡◌, ℕ, List, [], ◌∷◌, ◌++◌, map, Some, Ok, Bool, true, false, cond, refl, ap}
use Rattle.std.proofs.lemmas.Option.{same_Some}
use Rattle.std.specs.Prelude.{codes, bytes_eq, find, Option, option_map}
use Rattle.std.specs.FinMap.{empty}
use Rattle.br_model.specs.Volume.{Volume, volume_bytes, Extends}
use Rattle.br_model.specs.Bootstrap.{Group}
use Rattle.br_model.specs.Meaning.{Hit, Hits}
use Rattle.br_model.specs.Choice.{Request, choose}
use Rattle.br_model.specs.Console.{Command, Mark}
use Rattle.br_model.specs.Plan as model
use Rattle.br_model.specs.Plan.{selection}
use Rattle.br_model.specs.PlanMeaning.{rows_of_jobs}
use Rattle.br_core.specs.Machine.{World, Restore, Status, IsStep, marks_of, plan_for}
use Rattle.br_core.specs.Machine.Status.{Waiting}
use Rattle.br_core.specs.Machine.Event.{Plan}
use Rattle.br_core.specs.Machine.Reply.{Planned}
use Rattle.br_core.proofs.JobExamples.{key, volumes, job, committing, nothing, committed}

-- ---- the plan

unfoldable pub request : Request
request = record { client = codes "c"; fileset = codes "f"; moment = 250 }

unfoldable pub script : List Command
script = Mark (codes "a") ∷ []

unfoldable pub group : List ℕ → ℕ → Group
group volume end = record {
  volume = volume;
  session_ids = record { low = 1; high = 1 } ∷ [];
  session_times = record { low = 100; high = 100 } ∷ [];
  files = [];
  blocks = [];
  addresses = record { low = 0; high = end } ∷ [];
  indexes = record { low = 1; high = 1 } ∷ [];
  streams = [];
}

unfoldable pub plan : model.Plan
plan = record {
  groups = group (codes "A") 63 ∷ group (codes "B") 107 ∷ [];
  names = record { key = record { session = key; index = 1 }; path = codes "/a" } ∷ [];
}

-- the restore: the status of its pieces, what is on its way and what was taken
unfoldable pub restore : List Status → List (List Hit) → Hits → Restore
restore statuses transit taken = record {
  jobs = job ∷ [];
  volumes = volumes;
  commits = 1;
  request = request;
  marks = codes "/a" ∷ [];
  plan = plan;
  statuses = statuses;
  transit = transit;
  taken = taken;
}

unfoldable pub going : List Status → List (List Hit) → Hits → World
going statuses transit taken = record { jobs = job ∷ []; volumes = volumes; earlier = [] ∷ []; restores = Some (restore statuses transit taken) ∷ [] }

unfoldable pub planning : Unit {0}
unfolding nothing committed request script group plan restore going committing
planning = tt

unfoldable pub is_chosen : choose (rows_of_jobs committed.jobs) request ≡ Ok (job.rows ∷ [])
unfolding planning
is_chosen = refl

unfoldable pub is_plan : plan_for (rows_of_jobs committed.jobs) request script ≡ Ok (marks_of (job.rows ∷ []) script, plan)
unfolding planning
is_plan = refl

unfoldable pub marks : marks_of (job.rows ∷ []) script ≡ codes "/a" ∷ []
unfolding planning
marks = refl

unfoldable pub plans : IsStep committed (Plan request script) (Planned 0) (going (Waiting ∷ Waiting ∷ []) [] empty)
unfolding planning
plans = (codes "/a" ∷ [], plan, refl, refl, refl)

-- ---- the volumes that grow meanwhile

-- other bytes come after those of each volume
unfoldable pub later : List Volume
later = map (λ (v : Volume). record v { bytes = v.bytes ++ codes "spoilt" }) volumes

-- volumes with more bytes each go on
unfoldable pub go_on : (vs : List Volume) → Extends (map (λ (v : Volume). record v { bytes = v.bytes ++ codes "spoilt" }) vs) vs
unfolding volume_bytes
go_on [] name bytes found = absurd cc
go_on (v ∷ vs) name bytes found = go (bytes_eq v.name name) (go_on vs name bytes) found
  where
    here : Bool → List Volume → Volume → Option (List ℕ)
    here b ws w = option_map (λ (u : Volume). u.bytes) (cond b (Some w) (find (λ (u : Volume). bytes_eq u.name name) ws))

    grown : List Volume
    grown = map (λ (w : Volume). record w { bytes = w.bytes ++ codes "spoilt" }) vs

    go : (b : Bool) → (volume_bytes vs name ≡ Some bytes → (more : List ℕ) × (volume_bytes grown name ≡ Some (bytes ++ more))) → here b vs v ≡ Some bytes
        → (more : List ℕ) × (here b grown (record v { bytes = v.bytes ++ codes "spoilt" }) ≡ Some (bytes ++ more))
    go true rest e = let same : v.bytes ≡ bytes = same_Some v.bytes bytes e in (codes "spoilt", ap (λ (xs : List ℕ). Some (xs ++ codes "spoilt")) same)
    go false rest e = rest e
