use Rattle.std.proofs.Common.{◌≡◌, ◌++◌, Ok}
use Rattle.std.specs.Vec.Iter.{into_iter_items}
use Rattle.br_catalog_rows.specs.Load.{read_all, read_rows, group_of}
use Rattle.br_catalog_rows.proofs.load.whole_jobs.Given as goal

-- the jobs so far have their rows
abbrev pub invariant-loop-job : goal.invariant-loop-job
invariant-loop-job l =
    (read_all (read_rows (group_of l.spans) (group_of l.files)) l.yielded ≡ Ok l.whole.items) × (l.yielded ++ into_iter_items l.job-iterator ≡ l.fn.jobs.items)
