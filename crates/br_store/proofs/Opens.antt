-- The tables of a sound database in a store ascend.
use Rattle.std.proofs.Common.{◌≡◌, inl, inr, ℕ, slice_get, Some, Bool, true, false, IsTrue, List, [], ◌∷◌, filter, refl, sym, ap, subst, subst₂, ◌∙◌}
use Rattle.std.specs.List.{AllByRecursion, AllZip}
use Rattle.sqlite.specs.Schema.{Schema}
use Rattle.sqlite.specs.Tree.{Trees}
use Rattle.sqlite.specs.Table.{Table as Declared}
use Rattle.sqlite.specs.View.{View, IsShaped, IsOrdered}
use Rattle.sqlite.specs.Effect.{Database, IsDatabase}
use Rattle.sqlite.specs.Held.{Held, state}
use Rattle.sqlite.proofs.StateLemmas.{survives_weaker}
use Rattle.sqlite_trees.specs.declared.store.Store.{Ghosts}
use Rattle.sqlite_trees.specs.Objects.{catalog_tree, IsListed}
use Rattle.sqlite_trees.specs.declared.store.Shape.TheVariants.{Table}
use Rattle.sqlite_catalog.specs.Listing.{AreListed, IsTableRow, is_table_row}
use Rattle.sqlite_catalog.proofs.LayoutLemmas.{laid_out, objects_rise}
use Rattle.br_catalog_tables.specs.TreePlaces.{Layout}
use Rattle.br_catalog_tables.specs.Tables.{no_schema, tables_at, version}
use Rattle.br_catalog_tables.specs.KnownSchemas.{HasVersionTable, IsStoreSchema, Stands, with_own}
use Rattle.sqlite_rules.proofs.ListLemmas.{all_has}
use Rattle.br_store.specs.Held.{HasTables, HasVersions}
use Rattle.br_store.specs.Made.{Finds, IsMade}
use Rattle.br_store.specs.Calls.{AreRising, CommitsNothing, MayMake}
use Rattle.br_store.proofs.Inserts.{all_ours, has_table}
use Rattle.br_store.proofs.Layouts.{has_here, layout_is, version_is}

shaped : (v : View) (trees : Trees) → trees ≡ v.trees → IsOrdered v.shape v.trees → (tables : List Declared) → AllByRecursion (λ (t : Declared). v.shape t.tree ≡ Table) tables
    → AllByRecursion (λ (t : Declared). IsShaped Table (trees t.tree)) tables
shaped v trees same ordered [] laid = tt
shaped v trees same ordered (t ∷ tables) laid =
    (subst (IsShaped Table) (ap (λ (all : Trees). all t.tree) (sym same)) (subst (λ s. IsShaped s (v.trees t.tree)) laid.0 (ordered t.tree)), shaped v trees same ordered tables laid.1)

-- the rows of each table of a sound database in a store ascend
pub rising_in : (v : View) (db : Database) → db.trees ≡ v.trees → IsDatabase db → IsListed (v.trees catalog_tree) v.shape v.reals → IsOrdered v.shape v.trees → AreRising db
rising_in v db trees sound listed ordered =
    let are = subst (λ (t : Trees). AreListed (t catalog_tree) db.schema) trees sound.lists.listed in
    let laid = laid_out listed (objects_rise v listed ordered) are in
    shaped v db.trees trees ordered db.schema.tables laid.tables

-- a sound database with the catalogue's tables, if its rows ascend
pub has_tables : (db : Database) → IsStoreSchema db.schema → IsDatabase db → AreRising db → HasTables db
has_tables db schema sound rising =
    let l = schema.0 in
    let o = schema.1 in
    let now = sym (layout_is l o db schema.2 sound) in
    let all = all_ours (λ n. IsShaped Table (db.trees n)) db.schema l o schema.2 rising in
    record {
      own = o;
      schema = has_here l o db schema.2 sound;
      sound = sound;
      shaped = subst (λ (m : Layout). AllByRecursion (λ (t : Declared). IsShaped Table (db.trees t.tree)) (tables_at m)) now all;
    }

-- a sound database with the table of the version, if its rows ascend
pub has_versions : (db : Database) → HasVersionTable db.schema → IsDatabase db → AreRising db → HasVersions db
has_versions db h sound rising =
    let t = with_own (version h.0) h.1.0 in
    let now = sym (version_is h.0 h.1.0 db h.1.1 sound) in
    record {
      own = h.1.0;
      table = subst (λ (n : ℕ). Stands db.schema (with_own (version n) h.1.0)) now h.1.1;
      shaped = subst (λ (n : ℕ). IsShaped Table (db.trees n)) now (all_has (λ (u : Declared). IsShaped Table (db.trees u.tree)) db.schema.tables t rising (has_table db.schema t h.1.1));
    }

-- a catalogue has it
pub of_tables : (db : Database) → HasTables db → HasVersions db
of_tables db tables = record { own = tables.own.version; table = tables.schema.version; shaped = tables.shaped.0 }

-- a database that lists no table has none of these
none_zipped : {X Y : Type 0} (R : X → Y → Type 0) (xs : List X) (ys : List Y) (at : ℕ) (y : Y) → AllZip R xs [] → AllZip R xs ys → slice_get ys at ≡ Some y → ⊥
none_zipped R [] [] at y none all is = absurd cc
none_zipped R [] (z ∷ ys) at y none all is = all
none_zipped R (x ∷ xs) ys at y none all is = none

pub not_both : (schema : Schema) (trees : Trees) → IsStoreSchema schema → IsDatabase (record { schema = no_schema; trees = trees }) → IsDatabase (record { schema = schema; trees = trees }) → ⊥
not_both schema trees is none all =
    none_zipped IsTableRow (filter is_table_row (trees catalog_tree)) schema.tables is.2.version.place _ none.lists.listed.tables all.lists.listed.tables is.2.version.is

-- what is not broken is not shut
pub is_up : (up broken : Bool) → (up ≡ false → IsTrue broken) → broken ≡ false → IsTrue up
is_up true broken shut sound = refl
is_up false broken shut sound = absurd (let e = sym (shut refl) ∙ sound in cc)

-- an open of a database with no table
pub finds_made : (before now new : Database) → IsDatabase now → now.trees ≡ before.trees → now.schema ≡ no_schema → IsMade new → Finds before new
finds_made before now new sound trees schema made = inr (subst₂ (λ s t. IsDatabase (record { schema = s; trees = t })) schema trees sound, made)

-- an open of a catalogue
pub finds_kept : (before now : Database) → now.trees ≡ before.trees → Finds before now
finds_kept before now trees = inl trees

pub not_fresh : (P : Type 0) (now : Database) → IsDatabase now → IsStoreSchema now.schema → IsDatabase (record { schema = no_schema; trees = now.trees }) → P
not_fresh P now sound schema none = absurd (not_both now.schema now.trees schema none sound)

-- a call that commits nothing makes no catalogue
pub makes_none : {S : Type 0} (g : Ghosts S) (old new : Held S) → CommitsNothing g old new → MayMake g old new
makes_none g old new kept = survives_weaker (state g old) (state g new) _ _ (λ clean db none. absurd none) kept
