use Rattle.std.proofs.Common.{◌≡◌, ◌==◌, ℕ, false, take}
use Rattle.std.specs.List.{list_any}
use Rattle.br_model.specs.Job.{JobRows as Job}
use Rattle.br_catalog_files.specs.SeenIndexes.{has_index, has_job}
use Rattle.br_catalog_files.proofs.seen_indexes.no_indexes.Given as goal

abbrev pub invariant-loop-job : goal.invariant-loop-job
invariant-loop-job l =
    ((id : ℕ) → has_job l.seen id ≡ list_any (λ (j : Job). j.row.id == id) (take l.job-index l.jobs)) × ((id index : ℕ) → has_index l.seen id index ≡ false)
