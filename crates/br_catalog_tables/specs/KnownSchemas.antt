-- Schemas that have the catalogue's tables, perhaps with a user's additions.
use Rattle.std.specs.Prelude.{◌≡◌, ℕ, ◌^◌, nat_le, false, List, [], ◌++◌, Option, Some, None, codes, ◌==◌, option_map, slice_get}
use Rattle.std.specs.List.{position_from}
use Rattle.sqlite.specs.Table.{Table}
use Rattle.sqlite.specs.Schema.{Schema}
use Rattle.sqlite.specs.Term.{Term}
use Rattle.sqlite_value.specs.declared.keys.Order.{Order}
use Rattle.sqlite_schema.specs.declared.schema.Column.{Column}
use Rattle.sqlite_schema.specs.declared.schema.Reference.{Reference}
use Rattle.sqlite_schema.specs.Names.{column_named, same_name}
use Rattle.br_catalog_tables.specs.TreePlaces.{Layout}
use Rattle.br_catalog_tables.specs.Tables.{version, client, fileset, media, path, job, job_media, file}

-- A user's additions to a table: columns after those of the catalogue, and keys, orders and
-- references after its keys, orders and references. The checks are all the user's.
pub record Own : Type 0 where
  pub columns : List Column
  pub uniques : List (List ℕ)
  pub orders : List Order
  pub checks : List Term
  pub references : List Reference

-- the table with the user's additions
abbrev pub with_own : Table → Own → Table
with_own t own = record t {
  columns = t.columns ++ own.columns;
  uniques = t.uniques ++ own.uniques;
  orders = t.orders ++ own.orders;
  checks = own.checks;
  references = t.references ++ own.references;
}

-- The table is in the schema: it is the first with its name, in upper or lower case, and the first
-- in its tree, which is a tree of stored tables. If it has no key, no column has the name of a
-- row's number.
pub record Stands (schema : Schema) (t : Table) : Type 0 where
  pub place : ℕ
  pub named : position_from (λ (u : Table). same_name u.name t.name) 0 schema.tables ≡ Some place
  pub placed : position_from (λ (u : Table). u.tree == t.tree) 0 schema.tables ≡ Some place
  pub is : slice_get schema.tables place ≡ Some t
  pub stored : nat_le (2 ^ 31) t.tree ≡ false
  pub numbered : t.key ≡ None → column_named t (codes "rowid") ≡ None

-- the user's additions to the catalogue's tables
pub record Owns : Type 0 where
  pub version : Own
  pub client : Own
  pub fileset : Own
  pub media : Own
  pub path : Own
  pub job : Own
  pub job_media : Own
  pub file : Own

-- the schema has the catalogue's tables, in these trees and with these columns of the user
pub record HasAll (schema : Schema) (l : Layout) (o : Owns) : Type 0 where
  pub version : Stands schema (with_own (version l.version) o.version)
  pub client : Stands schema (with_own (client l.client) o.client)
  pub fileset : Stands schema (with_own (fileset l.fileset) o.fileset)
  pub media : Stands schema (with_own (media l.media) o.media)
  pub path : Stands schema (with_own (path l.path) o.path)
  pub job : Stands schema (with_own (job l.job) o.job)
  pub job_media : Stands schema (with_own (job_media l.job_media) o.job_media)
  pub file : Stands schema (with_own (file l.file) o.file)

-- no additions
abbrev pub no_own : Own
no_own = record { columns = []; uniques = []; orders = []; checks = []; references = [] }

abbrev pub no_owns : Owns
no_owns = record { version = no_own; client = no_own; fileset = no_own; media = no_own; path = no_own; job = no_own; job_media = no_own; file = no_own }

-- the schema has the table of the version in this tree, perhaps with columns of the user
abbrev pub IsVersionTree : Schema → ℕ → Type 0
IsVersionTree schema tree = (own : Own) × Stands schema (with_own (version tree) own)

-- the schema has the table of the version, in some tree
abbrev pub HasVersionTable : Schema → Type 0
HasVersionTable schema = (tree : ℕ) × IsVersionTree schema tree

-- the tree of the table at a place, if there is one
abbrev pub tree_in : List Table → Option ℕ → Option ℕ
tree_in tables None = None
tree_in tables (Some place) = option_map (λ (t : Table). t.tree) (slice_get tables place)

-- the schema has the catalogue's tables
abbrev pub IsStoreSchema : Schema → Type 0
IsStoreSchema schema = (l : Layout) × (o : Owns) × HasAll schema l o
