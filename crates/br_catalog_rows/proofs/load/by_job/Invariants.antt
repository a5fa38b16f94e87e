use Rattle.std.proofs.Common.{◌≡◌, ◌==◌, ℕ, true, take, filter}
use Rattle.std.specs.List.{list_any, list_all}
use Rattle.br_model.specs.Job.{JobRow as Job}
use Rattle.br_catalog_rows.specs.Load.{group_of, has, has_job, is_of}
use Rattle.br_catalog_rows.proofs.load.by_job.Given as goal

-- each of the rows so far belongs to a job, and is in its list
abbrev pub invariant-loop-row : goal.invariant-loop-row
invariant-loop-row l =
    ((id : ℕ) → has l.places id ≡ list_any (λ (j : Job). j.id == id) l.jobs) × ((id : ℕ) → group_of l.places id ≡ filter (is_of id) (take l.row-index l.rows))
    × (list_all (has_job l.jobs) (take l.row-index l.rows) ≡ true)
