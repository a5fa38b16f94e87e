use Rattle.std.proofs.Common.{length}
use Rattle.br_catalog_tables.proofs.schema.+have_shapes.Given as goal

abbrev pub decreases-have_shapes : goal.decreases-have_shapes
decreases-have_shapes l = length l.shapes.now
