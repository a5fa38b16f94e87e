-- The tables are found by their names if the schema has them.
use Rattle.std.proofs.Common.{◌≡◌, ℕ, ◌+◌, ◌-◌, List, [], ◌∷◌, Bool, true, false, cond, codes, bytes_eq, filter, find, unwrap_or, Option, Some, None, refl, sym, ap, ap₂, subst, ◌∙◌, arith}
use Rattle.std.specs.List.{AllZip}
use Rattle.sqlite.specs.Order.{Row, column}
use Rattle.sqlite.specs.Table.{Table}
use Rattle.sqlite.specs.Tree.{Trees}
use Rattle.sqlite.specs.Effect.{Database, IsDatabase}
use Rattle.sqlite_trees.specs.Objects.{catalog_tree, number_in}
use Rattle.sqlite_catalog.specs.Listing.{IsTableRow, is_table_row}
use Rattle.br_catalog_tables.specs.TreePlaces.{Layout}
use Rattle.br_catalog_tables.specs.Tables.{version}
use Rattle.br_catalog_tables.specs.KnownSchemas.{HasAll, Own, Owns, Stands, with_own}
use Rattle.std.proofs.lemmas.Slice.Eq.{bytes_eq-Decides}
use Rattle.sqlite.specs.Schema.{Schema}
use Rattle.sqlite_schema.specs.Names.{same_name}
use Rattle.br_store.proofs.Lookups.{by_name}
use Rattle.br_store.specs.Held.{has_name, is_text, tree_named, layout_in}

abbrev pub tree_in : Option Table → ℕ
tree_in None = 0
tree_in (Some t) = t.tree

abbrev number_of : Option Row → ℕ
number_of o = number_in (column (unwrap_or o []) 0) - 1

abbrev pub is_called : List ℕ → Table → Bool
is_called name t = bytes_eq t.name name

one_less : (n : ℕ) → n + 1 - 1 ≡ n
one_less n = omega arith

-- the row that has the name first is that of the first table with it
found_at : (name : List ℕ) (rows : List Row) (tables : List Table) → AllZip IsTableRow rows tables → number_of (find (has_name name) rows) ≡ tree_in (find (is_called name) tables)
found_at name [] [] all = refl
found_at name [] (t ∷ tables) all = absurd all
found_at name (r ∷ rows) [] all = absurd all
found_at name (r ∷ rows) (t ∷ tables) all =
    let same : has_name name r ≡ is_called name t = ap (is_text name) all.0.described.name_is in
    let number : number_of (Some r) ≡ t.tree = ap (λ v. number_in v - 1) all.0.described.id ∙ one_less t.tree in
    go (has_name name r) (is_called name t) same number (found_at name rows tables all.1)
  where
    go : (a b : Bool) → a ≡ b → number_of (Some r) ≡ t.tree → number_of (find (has_name name) rows) ≡ tree_in (find (is_called name) tables)
        → number_of (cond a (Some r) (find (has_name name) rows)) ≡ tree_in (cond b (Some t) (find (is_called name) tables))
    go true true same number more = number
    go false false same number more = more
    go true false same number more = absurd cc
    go false true same number more = absurd cc

pub tree_is : (trees : Trees) (tables : List Table) (name : List ℕ) → AllZip IsTableRow (filter is_table_row (trees catalog_tree)) tables → tree_named trees name ≡ tree_in (find (is_called name) tables)
unfolding tree_named
tree_is trees tables name all = found_at name (filter is_table_row (trees catalog_tree)) tables all

-- the trees of the tables with the catalogue's names
abbrev pub layout_among : List Table → Layout
layout_among tables = record {
  version = tree_in (find (is_called (codes "Version")) tables);
  client = tree_in (find (is_called (codes "Client")) tables);
  fileset = tree_in (find (is_called (codes "FileSet")) tables);
  media = tree_in (find (is_called (codes "Media")) tables);
  path = tree_in (find (is_called (codes "Path")) tables);
  job = tree_in (find (is_called (codes "Job")) tables);
  job_media = tree_in (find (is_called (codes "JobMedia")) tables);
  file = tree_in (find (is_called (codes "File")) tables);
}

-- tables that are listed are found by their names
pub layout_from : (trees : Trees) (tables : List Table) → AllZip IsTableRow (filter is_table_row (trees catalog_tree)) tables → layout_in trees ≡ layout_among tables
layout_from trees tables all =
    let a = layout_in trees in
    let b = layout_among tables in
    let at = λ (name : List ℕ). tree_is trees tables name all in
    ap₂ (λ v c. record a { version = v; client = c }) (at (codes "Version")) (at (codes "Client"))
    ∙ ap₂ (λ f m. record a { version = b.version; client = b.client; fileset = f; media = m }) (at (codes "FileSet")) (at (codes "Media"))
    ∙ ap₂ (λ p j. record a { version = b.version; client = b.client; fileset = b.fileset; media = b.media; path = p; job = j }) (at (codes "Path")) (at (codes "Job"))
    ∙ ap₂ (λ s f. record b { job_media = s; file = f }) (at (codes "JobMedia")) (at (codes "File"))

-- what passes one test first passes a stricter one first
stricter : {X : Type 0} (p q : X → Bool) (xs : List X) (x : X) → ((y : X) → q y ≡ true → p y ≡ true) → q x ≡ true → find p xs ≡ Some x → find q xs ≡ Some x
stricter p q [] x weaker is h = absurd cc
stricter {X} p q (y ∷ xs) x weaker is h = go (p y) (q y) refl refl h (stricter p q xs x weaker is)
  where
    go : (a b : Bool) → p y ≡ a → q y ≡ b → cond a (Some y) (find p xs) ≡ Some x → (find p xs ≡ Some x → find q xs ≡ Some x) → cond b (Some y) (find q xs) ≡ Some x
    go true true e f h more = h
    go true false e f h more = let same : y ≡ x = cc in absurd (let no = sym f ∙ ap q same ∙ is in cc)
    go false true e f h more = absurd (let no = sym e ∙ weaker y f in cc)
    go false false e f h more = more h

-- a table of a schema is the first with just its name
called : (schema : Schema) (t : Table) → Stands schema t → same_name t.name t.name ≡ true → find (is_called t.name) schema.tables ≡ Some t
called schema t s self =
    stricter (λ (u : Table). same_name u.name t.name) (is_called t.name) schema.tables t
    (λ u same. ap (λ (name : List ℕ). same_name name t.name) ((bytes_eq-Decides u.name t.name).0 same) ∙ self) ((bytes_eq-Decides t.name t.name).1 refl) (by_name schema t s)

pub tree_at : (schema : Schema) (t : Table) → Stands schema t → same_name t.name t.name ≡ true → tree_in (find (is_called t.name) schema.tables) ≡ t.tree
tree_at schema t s self = ap tree_in (called schema t s self)

among : (schema : Schema) (l : Layout) (o : Owns) → HasAll schema l o → layout_among schema.tables ≡ l
unfolding same_name
among schema l o has =
    let a = layout_among schema.tables in
    ap₂ (λ v c. record a { version = v; client = c }) (tree_at schema _ has.version refl) (tree_at schema _ has.client refl)
    ∙ ap₂ (λ f m. record a { version = l.version; client = l.client; fileset = f; media = m }) (tree_at schema _ has.fileset refl) (tree_at schema _ has.media refl)
    ∙ ap₂ (λ p j. record a { version = l.version; client = l.client; fileset = l.fileset; media = l.media; path = p; job = j }) (tree_at schema _ has.path refl) (tree_at schema _ has.job refl)
    ∙ ap₂ (λ s f. record l { job_media = s; file = f }) (tree_at schema _ has.job_media refl) (tree_at schema _ has.file refl)

-- the table of the version of a sound database is in the tree in which its schema has it
pub version_is : (tree : ℕ) (own : Own) (db : Database) → Stands db.schema (with_own (version tree) own) → IsDatabase db → tree_named db.trees (codes "Version") ≡ tree
unfolding same_name
version_is tree own db table sound = tree_is db.trees db.schema.tables (codes "Version") sound.lists.listed.tables ∙ tree_at db.schema _ table refl

-- the tables of a sound database are in the trees in which its schema has them
pub layout_is : (l : Layout) (o : Owns) (db : Database) → HasAll db.schema l o → IsDatabase db → layout_in db.trees ≡ l
layout_is l o db has sound = layout_from db.trees db.schema.tables sound.lists.listed.tables ∙ among db.schema l o has

-- so the schema says of itself where its tables are
pub has_here : (l : Layout) (o : Owns) (db : Database) → HasAll db.schema l o → IsDatabase db → HasAll db.schema (layout_in db.trees) o
has_here l o db has sound = subst (λ (m : Layout). HasAll db.schema m o) (sym (layout_is l o db has sound)) has
