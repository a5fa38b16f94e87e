use Rattle.std.proofs.Common.{◌≡◌, ◌++◌, true}
use Rattle.std.specs.Vec.Iter.{into_iter_items}
use Rattle.br_model.specs.Job.{no_pair, clash}
use Rattle.br_catalog_rows.proofs.load.joined.Given as goal

-- the jobs so far are a history
abbrev pub invariant-loop-job : goal.invariant-loop-job
invariant-loop-job l = (l.history ≡ l.yielded) × (l.yielded ++ into_iter_items l.job-iterator ≡ l.fn.jobs.items) × (no_pair clash l.yielded ≡ true)
