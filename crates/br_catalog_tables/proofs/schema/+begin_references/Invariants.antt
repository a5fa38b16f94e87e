use Rattle.std.proofs.Common.{length}
use Rattle.br_catalog_tables.proofs.schema.+begin_references.Given as goal

abbrev pub decreases-begin_references : goal.decreases-begin_references
decreases-begin_references l = length l.references.now
