-- Which tables two lists of objects share.
use Rattle.std.proofs.Common.{◌≡◌, ◌≢◌, ◌⊎◌, ◌+◌, ℕ, pos, List, [], ◌∷◌, filter, Less, Equal, Greater, Ordering, inl, inr, refl, sym, ap, ap₂, subst, ◌∙◌, arith}
use Rattle.std.specs.List.{AllZip}
use Rattle.std.specs.Ordering.{match_ordering}
use Rattle.sqlite.specs.declared.types.Value.TheVariants.{Int}
use Rattle.sqlite.specs.Order.{Row, value_cmp}
use Rattle.sqlite.specs.Schema.{Schema}
use Rattle.sqlite.specs.Table.{Table}
use Rattle.sqlite_catalog.specs.Listing.{AreListed, DefinesTable, IsTableRow, is_table_row}
use Rattle.sqlite_rules.specs.Lists.{Has}
use Rattle.sqlite_rules.proofs.ListLemmas.{has_filtered, has_kept}
use Rattle.sqlite_trees.specs.Objects.{number_in}
use Rattle.sqlite_trees.specs.Tree.{put_row, rowid}

-- a row of a list in which one was put is that one, or was there
pub has_put : (new : Row) (rows : List Row) (r : Row) → Has (put_row new rows) r → (r ≡ new) ⊎ Has rows r
has_put new [] r (inl e) = inl e
has_put new [] r (inr none) = absurd none
has_put new (x ∷ rows) r h = go (value_cmp (rowid x) (rowid new)) h (has_put new rows r)
  where
    go : (o : Ordering) → Has (match_ordering o (x ∷ put_row new rows) (new ∷ rows) (new ∷ x ∷ rows)) r → (Has (put_row new rows) r → (r ≡ new) ⊎ Has rows r) → (r ≡ new) ⊎ Has (x ∷ rows) r
    go Less (inl e) more = inr (inl e)
    go Less (inr later) more = elim (more later) [ inl e ↦ inl e | inr there ↦ inr (inr there) ]
    go Equal (inl e) more = inl e
    go Equal (inr later) more = inr (inr later)
    go Greater (inl e) more = inl e
    go Greater (inr later) more = inr later

zip_right : {X Y : Type 0} (R : X → Y → Type 0) (xs : List X) (ys : List Y) (y : Y) → AllZip R xs ys → Has ys y → (x : X) × Has xs x × R x y
zip_right R [] [] y all h = absurd h
zip_right R [] (z ∷ ys) y all h = absurd all
zip_right R (x ∷ xs) [] y all h = absurd h
zip_right R (x ∷ xs) (z ∷ ys) y all (inl e) = (x, inl refl, subst (R x) (sym e) all.0)
zip_right R (x ∷ xs) (z ∷ ys) y all (inr later) = let it = zip_right R xs ys y all.1 later in (it.0, inr it.1, it.2)

zip_left : {X Y : Type 0} (R : X → Y → Type 0) (xs : List X) (ys : List Y) (x : X) → AllZip R xs ys → Has xs x → (y : Y) × Has ys y × R x y
zip_left R [] ys x all h = absurd h
zip_left R (z ∷ xs) [] x all h = absurd all
zip_left R (z ∷ xs) (y ∷ ys) x all (inl e) = (y, inl refl, subst (λ w. R w y) (sym e) all.0)
zip_left R (z ∷ xs) (y ∷ ys) x all (inr later) = let it = zip_left R xs ys x all.1 later in (it.0, inr it.1, it.2)

-- a row is that of one table
same_table : (r : Row) (t u : Table) → IsTableRow r t → IsTableRow r u → t ≡ u
same_table r t u a b =
    let next : t.tree + 1 ≡ u.tree + 1 = ap number_in (sym a.described.id ∙ b.described.id) in
    let tree : t.tree ≡ u.tree = omega (arith, next) in
    let texts = sym a.sql_is ∙ b.sql_is in
    let sql : a.sql ≡ b.sql = cc in
    let defined = subst (λ (text : List ℕ). DefinesTable text t) sql a.defined in
    let made = sym defined.1 ∙ b.defined.1 in
    let same : defined.0 ≡ b.defined.0 = cc in
    defined.2 ∙ ap₂ (λ (m : Table) (n : ℕ). record m { tree = n }) same tree ∙ sym b.defined.2

-- if each row but that of one tree was there before, so was each table but that in the tree
pub shared : (before objects : List Row) (schema after : Schema) (tree : ℕ) → ((r : Row) → Has objects r → Has before r ⊎ (rowid r ≡ Int (pos (tree + 1))))
    → AreListed before schema → AreListed objects after → (t : Table) → Has after.tables t → t.tree ≢ tree → Has schema.tables t
shared before objects schema after tree kept was is t has apart =
    let it = zip_right IsTableRow (filter is_table_row objects) after.tables t is.tables has in
    let row = has_filtered is_table_row objects it.0 it.1 in
    elim (kept it.0 row.0) [
      | inl there ↦
          let u = zip_left IsTableRow (filter is_table_row before) schema.tables it.0 was.tables (has_kept is_table_row before it.0 there row.1) in
          subst (Has schema.tables) (same_table it.0 u.0 t u.2 it.2) u.1
      | inr made ↦ absurd (let next : t.tree + 1 ≡ tree + 1 = ap number_in (sym it.2.described.id ∙ made) in apart (omega (arith, next)))
    ]
