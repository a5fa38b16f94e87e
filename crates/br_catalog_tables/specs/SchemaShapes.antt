-- The columns, references, tables and indexes that shapes describe (`src/schema_shape.rt`).
use Rattle.std.specs.Prelude.{◌≡◌, Bool, true, false, [], ◌∷◌, List, ℕ, ◌^◌, nat_le, ◌==◌, Option, Some, None, map, drop, length, codes, ◌++◌}
use Rattle.std.specs.List.{position_from}
use Rattle.std.specs.Borrow.{Bor}
use Rattle.sqlite.specs.Collation.TheVariants.{Binary}
use Rattle.sqlite.specs.declared.types.Value.TheVariants.{Null}
use Rattle.sqlite.specs.Kind.{Kind}
use Rattle.sqlite.specs.Kind.TheVariants as kind
use Rattle.sqlite.specs.Table.{Table}
use Rattle.sqlite.specs.Schema.{Schema}
use Rattle.sqlite_value.specs.declared.keys.Order.{Order}
use Rattle.sqlite_schema.specs.declared.schema.Action.TheVariants.{NoAction}
use Rattle.sqlite_schema.specs.declared.schema.Column.{Column}
use Rattle.sqlite_schema.specs.declared.schema.Reference.{Reference}
use Rattle.sqlite_schema.specs.Names.{column_named}
use Rattle.br_catalog_tables.specs.Tables.{column, key_column, refers}
use Rattle.br_catalog_tables.specs.declared.schema_shape.ColumnShape.{ColumnShape}
use Rattle.br_catalog_tables.specs.declared.schema_shape.ColumnShape.TheVariants.{Key, Integer, Text, Any}
use Rattle.br_catalog_tables.specs.declared.schema_shape.ReferenceShape.{ReferenceShape}
use Rattle.br_catalog_tables.specs.KnownSchemas.{Own, Stands, with_own}
use Rattle.br_catalog_tables.specs.declared.schema_shape.TableShape.{TableShape}

-- a column that is not STRICT, has no default and compares bytes
abbrev pub any_column : List ℕ → Kind → Bool → Column
any_column name kind not_null =
    record { name = name; kind = kind; is_strict = false; not_null = not_null; default = Null; collation = Binary }

-- the column of a shape
abbrev pub column_of : ColumnShape → Column
column_of (Key name) = key_column name.now
column_of (Integer name) = column name.now kind.Integer
column_of (Text name) = column name.now kind.Text
column_of (Any name) = column name.now kind.Any

-- the reference of a shape, with no action
abbrev pub reference_of : ReferenceShape → Reference
reference_of s = refers s.place s.parent.now s.name.now

-- a change of the row that is referred to causes no action, and the test of the reference does not
-- wait for the commit
abbrev pub HasNoAction : Reference → Type 0
HasNoAction reference = (reference.on_delete ≡ NoAction) × (reference.on_update ≡ NoAction) × (reference.is_deferred ≡ false)

-- the key is the first column, if there is one
abbrev pub key_of : Bool → Option ℕ
key_of true = Some 0
key_of false = None

-- the place of the key in a row, if there is one
abbrev pub primary_of : Bool → List ℕ
primary_of true = 0 ∷ []
primary_of false = []

-- the rows differ in the columns at these places, if there are some
abbrev pub uniques_of : Option (Bor (List ℕ)) → List (List ℕ)
uniques_of None = []
uniques_of (Some places) = places.now ∷ []

-- the order of the index over these places, if there is one
abbrev pub orders_of : Option (Bor (List ℕ)) → List Order
orders_of None = []
orders_of (Some places) = record { digits = 0 } ∷ []

-- the list begins with these elements
abbrev pub Begins : {A : Type 0} → List A → List A → Type 0
Begins front xs = xs ≡ front ++ drop (length front) xs

-- a table with this name, and with no check, no computed default and no count
abbrev pub bare : List ℕ → Table → Table
bare name table = record table {
  name = name;
  checks = [];
  computed = [];
  stamps = record { places = []; terms = []; formats = [] };
  is_counted = false;
}

-- a table with this name, and with no computed default and no count
abbrev pub simple : List ℕ → Table → Table
simple name table = record table {
  name = name;
  computed = [];
  stamps = record { places = []; terms = []; formats = [] };
  is_counted = false;
}

-- the table of a shape in a tree, with no check, no computed default and no count
abbrev pub table_of : TableShape → ℕ → Table
table_of s tree = record {
  name = s.name.now;
  tree = tree;
  columns = map column_of s.columns.now;
  key = key_of s.is_keyed;
  primary = primary_of s.is_keyed;
  uniques = uniques_of s.unique;
  orders = orders_of s.unique;
  checks = [];
  references = map reference_of s.references.now;
  computed = [];
  stamps = record { places = []; terms = []; formats = [] };
  is_counted = false;
}

-- the tables of shapes in their trees
abbrev pub placed : List TableShape → List ℕ → List Table
placed (s ∷ shapes) (tree ∷ trees) = table_of s tree ∷ placed shapes trees
placed _ _ = []

-- the additions of a table to its shape
abbrev pub own_of : TableShape → Table → Own
own_of s t = record {
  columns = drop (length s.columns.now) t.columns;
  uniques = drop (length (uniques_of s.unique)) t.uniques;
  orders = drop (length (orders_of s.unique)) t.orders;
  checks = t.checks;
  references = drop (length s.references.now) t.references;
}

-- The tree is one of stored tables and, if the table has no key, no column has the name of a row's
-- number.
abbrev pub IsReadable : Table → Type 0
IsReadable t = (nat_le (2 ^ 31) t.tree ≡ false) × (t.key ≡ None → column_named t (codes "rowid") ≡ None)

-- the table is the first in its tree, at this place of the schema, and can be read by its names
abbrev pub IsFound : Schema → ℕ → Table → Type 0
IsFound schema place t = (position_from (λ (u : Table). u.tree == t.tree) 0 schema.tables ≡ Some place) × IsReadable t

-- the table at a place of a schema has this shape, perhaps with additions, and is where it is found
abbrev pub Fits : Schema → TableShape → ℕ → Table → Type 0
Fits schema s place t = (t ≡ with_own (table_of s t.tree) (own_of s t)) × IsFound schema place t

-- the schema has a table of this shape, perhaps with additions
abbrev pub HasShape : Schema → TableShape → Type 0
HasShape schema s = (tree : ℕ) × (own : Own) × Stands schema (with_own (table_of s tree) own)

-- the table at a place of a schema has just this shape in this tree, and is where it is found
abbrev pub FitsIn : Schema → TableShape → ℕ → ℕ → Table → Type 0
FitsIn schema s tree place t = (t ≡ table_of s tree) × IsFound schema place t
