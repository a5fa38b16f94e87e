use Rattle.std.proofs.Common.{◌≡◌, ◌==◌, ℕ, [], take}
use Rattle.std.specs.List.{list_any}
use Rattle.br_model.specs.Job.{JobRow as Job}
use Rattle.br_catalog_rows.specs.Load.{group_of, has}
use Rattle.br_catalog_rows.proofs.load.places.Given as goal

-- the jobs so far have a place
abbrev pub invariant-loop-job : goal.invariant-loop-job
invariant-loop-job l =
    ((id : ℕ) → has l.places id ≡ list_any (λ (j : Job). j.id == id) (take l.job-index l.jobs)) × ((id : ℕ) → group_of l.places id ≡ [])
