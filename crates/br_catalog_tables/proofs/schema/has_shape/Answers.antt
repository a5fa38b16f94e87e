use Rattle.std.proofs.Common.{◌≡◌, ℕ, Some, slice_get, sym, subst, ◌∙◌}
use Rattle.sqlite.specs.Table.{Table}
use Rattle.br_catalog_tables.specs.SchemaShapes.{Fits}
use Rattle.br_catalog_tables.proofs.Schemas.{found, stands}
use Rattle.br_catalog_tables.proofs.schema.has_shape.Goals as goal

pub returns-in-Some : goal.returns-in-Some
returns-in-Some c =
    let schema = c.args.schema.now in
    let shape = c.args.shape.now in
    let named = sym c.table_named.ensures ∙ c.in-Some.is in (
      λ holds. let it = c.is_at.ensures.0 holds in stands schema shape c.in-Some.place it.0 named it.1 it.2,
      λ has.
          let it = found schema shape has in
          let same : it.0 ≡ c.in-Some.place = let both = sym it.1 ∙ named in cc in
          c.is_at.ensures.1 (subst (λ (n : ℕ). (t : Table) × (slice_get schema.tables n ≡ Some t) × Fits schema shape n t) same it.2),
    )
