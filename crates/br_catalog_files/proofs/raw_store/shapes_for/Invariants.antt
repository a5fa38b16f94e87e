use Rattle.std.proofs.Common.{◌≡◌, map, take, length}
use Rattle.sqlite_trees.specs.View.{View}
use Rattle.sqlite.specs.Opening.{shape_of, AllSuit}
use Rattle.br_catalog_files.proofs.raw_store.shapes_for.Given as goal

abbrev pub invariant-loop-at : goal.invariant-loop-at
invariant-loop-at l = (length l.all.items ≡ l.at) × ((v : View) → AllSuit v l.rows l.roots → l.all.items ≡ map (shape_of v) (take l.at l.rows))
