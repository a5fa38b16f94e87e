use Rattle.std.proofs.Common.{◌≡◌, map, take}
use Rattle.sqlite_trees.specs.View.{View}
use Rattle.sqlite.specs.Opening.{shape_of}
use Rattle.sqlite_catalog.specs.Reading.{coded_by}
use Rattle.br_catalog_files.proofs.raw_store.with_codes.Given as goal

abbrev pub invariant-loop-at : goal.invariant-loop-at
invariant-loop-at l = (v : View) → l.shapes ≡ map (shape_of v) l.rows → l.all.items ≡ map (coded_by v.shape) (take l.at l.rows)
