use Rattle.std.proofs.Common.{length}
use Rattle.br_catalog_tables.proofs.old_schema.+may_all_stay.Given as goal

abbrev pub decreases-may_all_stay : goal.decreases-may_all_stay
decreases-may_all_stay l = length l.tables.now
