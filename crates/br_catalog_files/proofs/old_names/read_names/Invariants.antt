use Rattle.std.proofs.Common.{List, IsSome}
use Rattle.sqlite.specs.Order.{Row}
use Rattle.sqlite_trees.specs.View.{IsClean}
use Rattle.br_catalog_files.specs.OldNames.{AreNames}
use Rattle.br_catalog_files.specs.MigrationSteps.{CommitsNothing}
use Rattle.br_catalog_files.proofs.StepLaws.{AreTaken}
use Rattle.br_catalog_files.proofs.old_names.read_names.Given as goal

-- the names so far are those of the rows that the cursor gave
abbrev pub invariant-rows : goal.invariant-rows
invariant-rows g l =
    IsSome ((g.S.Store.view l.store).cursors 0) × CommitsNothing g.S.Store l.fn.store l.store
    × (IsClean (g.S.Store.view l.store) → (done : List Row) × AreTaken (g.S.Store.view l.fn.store) (g.S.Store.view l.store) l.tree done × AreNames l.names done)
