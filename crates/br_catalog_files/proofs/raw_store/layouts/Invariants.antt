use Rattle.std.proofs.Common.{◌≡◌, map, take, length, All}
use Rattle.sqlite_trees.specs.View.{View}
use Rattle.sqlite.specs.Opening.{layout_of, shape_of, HasTree, Knows}
use Rattle.br_catalog_files.proofs.raw_store.layouts.Given as goal

abbrev pub invariant-loop-at : goal.invariant-loop-at
invariant-loop-at l =
    (length l.all.items ≡ l.at)
    × ((v : View) → Knows v l.schema → All (HasTree l.schema) l.rows → l.shapes ≡ map (shape_of v) l.rows → l.all.items ≡ map (layout_of v) (take l.at l.rows))
