-- Schemas that have the catalogue's tables.
use Rattle.std.proofs.Common.{◌≡◌, ◌==◌, ◌^◌, ℕ, false, nat_le, List, [], ◌∷◌, ◌++◌, drop, length, map, option_map, Option, Some, None, codes, slice_get, refl, sym, ap, ap₂, subst, ◌∙◌}
use Rattle.std.specs.List.{position_from}
use Rattle.sqlite.specs.Schema.{Schema}
use Rattle.sqlite.specs.Table.{Table}
use Rattle.sqlite_schema.specs.Names.{column_named, same_name, table_named}
use Rattle.br_catalog_tables.specs.SchemaShapes.{Fits, FitsIn, HasShape, column_of, orders_of, own_of, reference_of, table_of, uniques_of}
use Rattle.br_catalog_tables.specs.KnownSchemas.{Own, Stands, tree_in, with_own}
use Rattle.br_catalog_tables.specs.declared.schema_shape.TableShape.{TableShape}

-- what comes after a list is what was appended to it
drop_front : {X : Type 0} (xs ys : List X) → drop (length xs) (xs ++ ys) ≡ ys
drop_front [] ys = refl
drop_front (x ∷ xs) ys = drop_front xs ys

drop_mapped : {X Y : Type 0} (f : X → Y) (xs : List X) (ys : List Y) → drop (length xs) (map f xs ++ ys) ≡ ys
drop_mapped f [] ys = refl
drop_mapped f (x ∷ xs) ys = drop_mapped f xs ys

-- what a table has of somebody's own is what was appended after its shape
own_is : (s : TableShape) (tree : ℕ) (own : Own) → own_of s (with_own (table_of s tree) own) ≡ own
own_is s tree own =
    let a = own_of s (with_own (table_of s tree) own) in
    ap₂ (λ c u. record a { columns = c; uniques = u }) (drop_mapped column_of s.columns.now own.columns) (drop_front (uniques_of s.unique) own.uniques)
    ∙ ap₂ (λ o r. record own { orders = o; references = r }) (drop_front (orders_of s.unique) own.orders) (drop_mapped reference_of s.references.now own.references)

-- the table that is found by the name of a shape, and has the shape
pub stands : (schema : Schema) (s : TableShape) (place : ℕ) (t : Table) → position_from (λ (u : Table). same_name u.name s.name.now) 0 schema.tables ≡ Some place
    → slice_get schema.tables place ≡ Some t → Fits schema s place t → HasShape schema s
stands schema s place t named is fit = (
  t.tree,
  own_of s t,
  record {
    place = place;
    named = named;
    placed = fit.1.0;
    is = is ∙ ap Some fit.0;
    stored = fit.1.1.0;
    numbered = subst (λ (u : Table). u.key ≡ None → column_named u (codes "rowid") ≡ None) fit.0 fit.1.1.1;
  },
)

-- and the other way round
pub found : (schema : Schema) (s : TableShape) → HasShape schema s
    → (place : ℕ) × (position_from (λ (u : Table). same_name u.name s.name.now) 0 schema.tables ≡ Some place) × ((t : Table) × (slice_get schema.tables place ≡ Some t) × Fits schema s place t)
found schema s h =
    let u = with_own (table_of s h.0) h.1 in
    let it = h.2 in
    (it.place, it.named, (u, it.is, (ap (with_own (table_of s h.0)) (sym (own_is s h.0 h.1)), (it.placed, (it.stored, it.numbered)))))

-- the same of a table of just this shape in a tree
pub stands_in : (schema : Schema) (s : TableShape) (tree place : ℕ) (t : Table) → position_from (λ (u : Table). same_name u.name s.name.now) 0 schema.tables ≡ Some place
    → slice_get schema.tables place ≡ Some t → FitsIn schema s tree place t → Stands schema (table_of s tree)
stands_in schema s tree place t named is fit = record {
  place = place;
  named = named;
  placed = subst (λ (w : Table). position_from (λ (u : Table). u.tree == w.tree) 0 schema.tables ≡ Some place) fit.0 fit.1.0;
  is = is ∙ ap Some fit.0;
  stored = subst (λ (u : Table). nat_le (2 ^ 31) u.tree ≡ false) fit.0 fit.1.1.0;
  numbered = subst (λ (u : Table). u.key ≡ None → column_named u (codes "rowid") ≡ None) fit.0 fit.1.1.1;
}

-- a table is in the tree that its name leads to
pub tree_found : (schema : Schema) (t : Table) → Stands schema t → tree_in schema.tables (table_named schema t.name) ≡ Some t.tree
tree_found schema t stands = ap (tree_in schema.tables) stands.named ∙ ap (λ (o : Option Table). option_map (λ (u : Table). u.tree) o) stands.is
