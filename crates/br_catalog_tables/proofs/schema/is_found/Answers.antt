use Rattle.std.proofs.Common.{sym, ◌∙◌}
use Rattle.br_catalog_tables.proofs.schema.is_found.Goals as goal

pub returns-else-is_first : goal.returns-else-is_first
returns-else-is_first c =
    (λ holds. absurd (let e = sym holds ∙ c.if-is_first.false in cc), λ found. c.is_first.ensures.1 found.0)
