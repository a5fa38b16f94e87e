use Rattle.std.proofs.Common.{List, IsSome, map}
use Rattle.sqlite.specs.Order.{Row}
use Rattle.sqlite_trees.specs.Tree.{IsTable}
use Rattle.sqlite_trees.specs.View.{IsClean}
use Rattle.br_model.specs.Job.{JobRows as Job}
use Rattle.br_catalog_files.specs.OldFiles.{AreFiles, moved_row, shown_row}
use Rattle.br_catalog_files.specs.OldNames.{AreNames}
use Rattle.br_catalog_files.specs.Sound.{AreMovedRows}
use Rattle.br_catalog_files.specs.MigrationSteps.{CommitsNothing}
use Rattle.br_catalog_files.specs.WholeMigration.{AreWhole}
use Rattle.br_catalog_files.proofs.StepLaws.{AreTaken}
use Rattle.br_catalog_files.proofs.old_files.read_files.Given as goal

-- the files so far are those of the rows that the cursor gave, and a history can have them
abbrev pub invariant-rows : goal.invariant-rows
invariant-rows g l =
    IsSome ((g.S.Store.view l.store).cursors 0) × CommitsNothing g.S.Store l.fn.store l.store
    × (IsClean (g.S.Store.view l.store) → (done : List Row) × AreTaken (g.S.Store.view l.fn.store) (g.S.Store.view l.store) l.tree done × AreFiles l.reading.files done
    × ((ns : List Row) → AreNames l.names ns → IsTable ns → AreMovedRows done (map (moved_row ns) done))
    × ((ps ns : List Row) → AreNames l.paths ps → AreNames l.names ns → IsTable ps → IsTable ns → AreWhole (map (λ (j : Job). j.row) l.jobs) l.reading.seen (map (shown_row ps ns) done)))
