use Rattle.std.proofs.Common.{◌≡◌, List, [], map, take}
use Rattle.sqlite.specs.Order.{Row}
use Rattle.sqlite_trees.specs.Tree.{IsTable}
use Rattle.sqlite_trees.specs.View.{IsClean}
use Rattle.br_catalog_files.specs.OldFiles.{AreFiles, moved_row}
use Rattle.br_catalog_files.specs.OldNames.{AreNames}
use Rattle.br_catalog_files.specs.Renewed.{HasFiles}
use Rattle.br_catalog_files.specs.MigrationSteps.{CommitsNothing}
use Rattle.br_catalog_files.proofs.new_tables.put_files.Given as goal

-- the table has the rows of the files so far
abbrev pub invariant-loop-at : goal.invariant-loop-at
invariant-loop-at g l =
    CommitsNothing g.S.Store l.fn.store l.store
    × (IsClean (g.S.Store.view l.store) → (rows ns : List Row) → AreFiles l.files rows → AreNames l.names ns → IsTable ns → IsTable rows → (g.S.Store.view l.fn.store).trees l.tree ≡ []
    → HasFiles l.tree (g.S.Store.view l.fn.store) (g.S.Store.view l.store) (take l.at (map (moved_row ns) rows)))
