use Rattle.std.proofs.Common.{◌≡◌, List, IsSome, map}
use Rattle.sqlite.specs.Order.{Row}
use Rattle.sqlite_trees.specs.Tree.{IsTable}
use Rattle.sqlite_trees.specs.View.{IsClean}
use Rattle.br_catalog_files.specs.OldNames.{AreNames}
use Rattle.br_store.specs.Held.{job_shown}
use Rattle.br_catalog_files.specs.MigrationSteps.{CommitsNothing}
use Rattle.br_catalog_files.proofs.StepLaws.{AreTaken}
use Rattle.br_catalog_files.proofs.old_jobs.read_jobs.Given as goal

-- the rows so far show those that the cursor gave
abbrev pub invariant-rows : goal.invariant-rows
invariant-rows g l =
    IsSome ((g.S.Store.view l.store).cursors 0) × CommitsNothing g.S.Store l.fn.store l.store
    × (IsClean (g.S.Store.view l.store) → (done : List Row) × AreTaken (g.S.Store.view l.fn.store) (g.S.Store.view l.store) l.tree done
    × ((cs fs : List Row) → AreNames l.clients cs → AreNames l.filesets fs → IsTable cs → IsTable fs → l.jobs.items ≡ map (job_shown cs fs) done))
