use Rattle.std.proofs.Common.{rules, ◌∙◌}
use Rattle.br_catalog_tables.specs.KnownSchemas.{with_own}
use Rattle.br_catalog_tables.specs.Tables.{version}
use Rattle.br_catalog_tables.proofs.Schemas.{tree_found}
use Rattle.br_catalog_tables.proofs.old_schema.version_tree.Goals as goal

pub returns-clause-found : goal.returns-clause-found
returns-clause-found c =
    let has = c.has_version.ensures.version (search rules) in
    rw (c.tree_of.ensures ∙ tree_found c.args.schema.now (with_own (version has.0) has.1.0) has.1.1) has.1

pub returns-clause-known : goal.returns-clause-known
returns-clause-known c = λ has. rw (c.tree_of.ensures ∙ tree_found c.args.schema.now (with_own (version has.0) has.1.0) has.1.1) (search rules)
