use Rattle.std.proofs.Common.{length}
use Rattle.br_catalog_tables.proofs.old_schema.+fit_indexes.Given as goal

abbrev pub decreases-fit_indexes : goal.decreases-fit_indexes
decreases-fit_indexes l = length l.indexes.now
