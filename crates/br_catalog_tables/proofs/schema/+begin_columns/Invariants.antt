use Rattle.std.proofs.Common.{length}
use Rattle.br_catalog_tables.proofs.schema.+begin_columns.Given as goal

abbrev pub decreases-begin_columns : goal.decreases-begin_columns
decreases-begin_columns l = length l.columns.now
