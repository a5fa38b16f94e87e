use Rattle.std.proofs.Common.{length}
use Rattle.br_catalog_tables.proofs.old_schema.+all_stand.Given as goal

abbrev pub decreases-all_stand : goal.decreases-all_stand
decreases-all_stand l = length l.shapes.now
