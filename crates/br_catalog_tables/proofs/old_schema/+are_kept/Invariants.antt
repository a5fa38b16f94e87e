use Rattle.std.proofs.Common.{length}
use Rattle.br_catalog_tables.proofs.old_schema.+are_kept.Given as goal

abbrev pub decreases-are_kept : goal.decreases-are_kept
decreases-are_kept l = length l.indexes.now
