use Rattle.std.proofs.Common.{sym, ◌∙◌}
use Rattle.br_catalog_tables.proofs.Schemas.{stands_in}
use Rattle.br_catalog_tables.proofs.old_schema.stands.Goals as goal

pub returns-in-Some : goal.returns-in-Some
returns-in-Some c holds =
    let it = c.is_in.ensures.0 holds in
    stands_in c.args.schema.now c.args.shape.now c.args.tree c.in-Some.place it.0 (sym c.table_named.ensures ∙ c.in-Some.is) it.1 it.2
